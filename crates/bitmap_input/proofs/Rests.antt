-- The bytes that were read are the first ones of the file's rest, if the rest is known.
use Rattle.std.proofs.Common.{◌≡◌, refl, ℕ, inl, inr, true, List, ◌++◌, ap, sym, ◌∙◌, subst, Option, Some, None, IfSome, option_map, [], length, take, drop, append-nil, append_assoc}
use Rattle.std.proofs.lemmas.List.{take-append-drop}
use Rattle.pt_core.specs.Files.{Files, Opened, unread, unread_of, taken_of, with_read}
use Rattle.bitmap_input.specs.Reading.{Buffered, AtEnd, Moves}

end_of : (file : Option Opened) (n : ℕ) (rest : List ℕ) → option_map unread_of file ≡ Some rest →
    IfSome (option_map unread_of (option_map (taken_of n) file)) (λ rest. rest ≡ []) → drop n rest ≡ []
end_of None n rest h end = cc
end_of (Some file) n rest h end = let same : file.rest ≡ rest = cc in ap (drop n) (sym same) ∙ end

end_after : (before : Option Files) (n : ℕ) (rest : List ℕ) → unread before ≡ Some rest → AtEnd (with_read before n) → drop n rest ≡ []
end_after None n rest h end = cc
end_after (Some files) n rest h end = end_of files.opened n rest h end

rest_of : (file : Option Opened) (n : ℕ) (rest more : List ℕ) → option_map unread_of file ≡ Some rest →
    option_map unread_of (option_map (taken_of n) file) ≡ Some more → more ≡ drop n rest
rest_of None n rest more h k = cc
rest_of (Some file) n rest more h k =
    let same : file.rest ≡ rest = cc in
    let same2 : drop n file.rest ≡ more = cc in sym same2 ∙ ap (drop n) same

pub rest_after : (before : Option Files) (n : ℕ) (rest more : List ℕ) → unread before ≡ Some rest → unread (with_read before n) ≡ Some more →
    more ≡ drop n rest
rest_after None n rest more h k = cc
rest_after (Some files) n rest more h k = rest_of files.opened n rest more h k

-- a fact about the rest of the file, if that is known
pub where_told : (o : Option (List ℕ)) (P : List ℕ → Type 0) → ((rest : List ℕ) → o ≡ Some rest → P rest) → IfSome o P
where_told None P each = tt
where_told (Some rest) P each = each rest refl

module _ (h h2 : Buffered) (before now : Option Files) (more rest : List ℕ)
    (at_end : h.ended ≡ true → AtEnd before) (is : unread before ≡ Some rest) (moves : Moves h.ended before h2.ended now more) where
  -- the bytes that were read are the first ones of the rest
  pub taken_first : (more ≡ take (length more) rest) × (h.bytes ++ rest ≡ (h.bytes ++ more) ++ drop (length more) rest)
  taken_first =
      let front_of = subst (λ (o : Option (List ℕ)). IfSome o (λ rest. more ≡ take (length more) rest)) is moves.told in (
        front_of,
        ap (λ xs. h.bytes ++ xs) (sym (take-append-drop (length more) rest) ∙ ap (λ xs. xs ++ drop (length more) rest) (sym front_of)) ∙
            sym (append_assoc h.bytes more (drop (length more) rest)),
      )

  -- if no byte is left of the rest, all of it was read
  pub none_left : h2.ended ≡ true → more ≡ rest
  none_left ended = elim (moves.end ended) [
    | inl was_ended ↦
        let end = subst (λ (o : Option (List ℕ)). IfSome o (λ rest. rest ≡ [])) is (at_end was_ended) in
        (moves.stopped was_ended).0 ∙ sym end
    | inr now_end ↦
        let end : drop (length more) rest ≡ [] = end_after before (length more) rest is (subst AtEnd moves.files now_end) in
        taken_first.0 ∙ sym (append-nil (take (length more) rest)) ∙ ap (λ xs. take (length more) rest ++ xs) (sym end) ∙ take-append-drop (length more) rest
  ]
