-- The names of some files and documents, computed.
use Rattle.std.proofs.Common.{◌≡◌, ◌∷◌, [], None, refl, codes}
use Rattle.std.specs.Fmt.{digits}
use Rattle.run_output.specs.Names.{backend_suffix, base_name, document_name, next_name}
use Rattle.pt_core.specs.declared.settings.Backend.TheVariants.{Eps, GeoJson}

scan : base_name None (backend_suffix Eps) (codes "a/scan.pbm") ≡ codes "a/scan.eps"
scan = refl

dot_at_the_end : base_name None (backend_suffix Eps) (codes "x.") ≡ codes "x.eps"
dot_at_the_end = refl

two_dots : base_name None (backend_suffix Eps) (codes "..") ≡ codes "..eps"
two_dots = refl

folder : base_name None (backend_suffix Eps) (codes "d/") ≡ codes "d/.eps"
folder = refl

dot_in_the_folder : base_name None (backend_suffix GeoJson) (codes "a.b/c") ≡ codes "a.b/c.json"
dot_in_the_folder = refl

hidden : base_name None (backend_suffix Eps) (codes "a/.pbm") ≡ codes "a/.pbm.eps"
hidden = refl

first : document_name (codes "a.eps") 1 ≡ codes "a.eps"
first = refl

second : document_name (codes "a.eps") 2 ≡ codes "a-2.eps"
unfolding digits
second = refl

second_hidden : document_name (codes ".o") 2 ≡ codes ".o-2"
unfolding digits
second_hidden = refl

standard_output : document_name (base_name None (backend_suffix Eps) (codes "-")) 7 ≡ codes "-"
standard_output = refl

-- after `a.pbm` and `b.pgm` the document of `a.pgm` gets the number 2, since numbers count documents of one base name
next_of_three : next_name (codes "a.eps") (codes "a.eps" ∷ codes "b.eps" ∷ []) ≡ codes "a-2.eps"
unfolding digits
next_of_three = refl
