-- The contents of a writer together with the bytes that are buffered for it.
use Rattle.std.proofs.Common.{◌≡◌, ℕ, ◌+◌, List, [], ◌++◌, Option, None, Some, Result, Ok, Err, append-nil, sym, ap, subst, ◌∙◌, take, drop, length, ◌-◌, ◌≤◌}
use Rattle.std.proofs.lemmas.List.{take-append-drop, drop-drop, take_all, length-drop}
use Rattle.std.proofs.KnownBytes.{Keeps-refl}
use Rattle.std.proofs.Math.Nat.{le_refl}
use Rattle.std.specs.Io.KnownBytes.{Keeps, WriteAppends, append_known}

-- a call that changes neither
pub kept-same : (a : Option (List ℕ)) {buffered left : List ℕ} → buffered ≡ left
    → Keeps (append_known a buffered) (append_known a left)
kept-same a {buffered = buffered} same =
    subst (λ left. Keeps (append_known a buffered) (append_known a left)) same (Keeps-refl _)

-- the rest after the writer has taken a prefix of it
pub left_after : (all left : List ℕ) (gone count : ℕ) → left ≡ drop gone all
    → left ≡ take count left ++ drop (gone + count) all
left_after all left gone count is = sym (take-append-drop count left)
    ∙ ap (λ rest. take count left ++ rest) (ap (drop count) is ∙ drop-drop count gone all)

-- the rest, as a slice up to the end
pub slice_to_end : (all now : List ℕ) (gone : ℕ) → now ≡ all
    → take (length now - gone) (drop gone now) ≡ drop gone all
slice_to_end all now gone same =
    take_all (length now - gone) (drop gone now)
    (subst (λ n. n ≤ length now - gone) (sym (length-drop gone now))
    (le_refl (length now - gone))) ∙ ap (drop gone) same

-- a call of the writer after everything that was buffered is written
pub written_through : {E : Type 0} (a b c : Option (List ℕ)) (buffered : List ℕ)
    (result : Result ℕ E) (bytes : List ℕ)
    → Keeps (append_known a buffered) (append_known b []) → WriteAppends b c result bytes
    → WriteAppends (append_known a buffered) (append_known c []) result bytes
written_through None b c buffered (Ok count) bytes kept written = tt
written_through None b c buffered (Err error) bytes kept written = tt
written_through (Some x) None c buffered result bytes kept written = absurd kept
written_through (Some x) (Some y) None buffered (Ok count) bytes kept written = absurd written
written_through (Some x) (Some y) None buffered (Err error) bytes kept written = absurd written
written_through (Some x) (Some y) (Some z) buffered (Ok count) bytes kept written =
    append-nil z ∙ written ∙ ap (λ front. front ++ take count bytes) (sym (append-nil y) ∙ kept)
written_through (Some x) (Some y) (Some z) buffered (Err error) bytes kept written =
    append-nil z ∙ written ∙ sym (append-nil y) ∙ kept
