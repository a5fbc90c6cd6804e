-- XML texts that are read, and texts that are not.
use Rattle.std.proofs.Common.{◌≡◌, [], ◌∷◌, ◌++◌, codes, refl, Some, None}
use Rattle.document_readings.specs.XmlTree.{element, none, behind, xml_root}

-- a root with a child and an empty one
nested : xml_root (codes "<?xml version=\"1.0\"?>\n<a b=\"c d\"><e></e>\n <f-1 g=\"\"/></a>\n")
    ≡ Some (element (codes "a") (record { name = codes "b"; value = codes "c d" } ∷ [])
    (behind (behind none (element (codes "e") [] none)) (element (codes "f-1") (record { name = codes "g"; value = [] } ∷ []) none)))
nested = refl

-- in a value a line feed and a tab are spaces
spaced_value : xml_root (codes "<a\n\tb=\"c\nd\te\" />") ≡ Some (element (codes "a") (record { name = codes "b"; value = codes "c d e" } ∷ []) none)
spaced_value = refl

-- tags: crossed, not closed, closed too often, with another name, with a space before it
crossed : xml_root (codes "<a><b></a></b>") ≡ None
crossed = refl

not_closed : xml_root (codes "<a><b></b>") ≡ None
not_closed = refl

closed_twice : xml_root (codes "<a></a></a>") ≡ None
closed_twice = refl

only_closed : xml_root (codes "</a>") ≡ None
only_closed = refl

other_name : xml_root (codes "<a></A>") ≡ None
other_name = refl

space_first : xml_root (codes "< a/>") ≡ None
space_first = refl

cut_tag : xml_root (codes "<a") ≡ None
cut_tag = refl

-- one root, and tags alone
two_roots : xml_root (codes "<a/><b/>") ≡ None
two_roots = refl

no_root : xml_root (codes "<?xml version=\"1.0\"?>\n") ≡ None
no_root = refl

no_text : xml_root [] ≡ None
no_text = refl

text_inside : xml_root (codes "<a>b</a>") ≡ None
text_inside = refl

text_behind : xml_root (codes "<a/>b") ≡ None
text_behind = refl

comment : xml_root (codes "<a><!-- b --></a>") ≡ None
comment = refl

-- names begin with a letter
digit_first : xml_root (codes "<1/>") ≡ None
digit_first = refl

minus_first : xml_root (codes "<a -b=\"c\"/>") ≡ None
minus_first = refl

-- attributes: twice, without a value, a quotation mark, a space between, a name
repeated : xml_root (codes "<a b=\"c\" b=\"d\"/>") ≡ None
repeated = refl

no_value : xml_root (codes "<a b/>") ≡ None
no_value = refl

bare : xml_root (codes "<a b=c/>") ≡ None
bare = refl

unquoted_end : xml_root (codes "<a b=\"c/>") ≡ None
unquoted_end = refl

apostrophes : xml_root (codes "<a b='c'/>") ≡ None
apostrophes = refl

glued : xml_root (codes "<a b=\"c\"d=\"e\"/>") ≡ None
glued = refl

nameless : xml_root (codes "<a =\"c\"/>") ≡ None
nameless = refl

-- values: a tag, a reference, a byte that is no character, one that isn't ASCII
less_in_value : xml_root (codes "<a b=\"<\"/>") ≡ None
less_in_value = refl

reference : xml_root (codes "<a b=\"&amp;\"/>") ≡ None
reference = refl

no_character : xml_root (codes "<a b=\"" ++ 7 ∷ codes "\"/>") ≡ None
no_character = refl

not_ascii : xml_root (codes "<a b=\"" ++ 195 ∷ 164 ∷ codes "\"/>") ≡ None
not_ascii = refl

-- the declaration: another version, other bytes, in the middle, behind a space, not ended
other_version : xml_root (codes "<?xml version=\"2.0\"?><a/>") ≡ None
other_version = refl

no_version : xml_root (codes "<?xml?><a/>") ≡ None
no_version = refl

instruction : xml_root (codes "<?a b?><a/>") ≡ None
instruction = refl

late : xml_root (codes "<a><?xml version=\"1.0\"?></a>") ≡ None
late = refl

behind_space : xml_root (codes " <?xml version=\"1.0\"?><a/>") ≡ None
behind_space = refl

endless : xml_root (codes "<?xml version=\"1.0\"><a/>") ≡ None
endless = refl
