-- A code is at the start of a text, and something is left of it.
use Rattle.std.proofs.Common.{◌≡◌, ℕ, zero, suc, Bool, true, false, ◌&&◌, List, [], ◌∷◌, length, drop, Option, Some, None, IfSome, is_some, option_map, not, refl, ap, arith, length-append, if◌then◌else◌}
use Rattle.cn_core.proofs.Fronts.{and-right}
use Rattle.cn_core.specs.FigureCharacters.{is_figure}
use Rattle.cn_replace.specs.Pieces.{after_leading, begins, leading}
use Rattle.cn_phrase.proofs.ItemSteps.{Leaves}
use Rattle.cn_phrase.proofs.Suffixes.{Ends-again, Ends-leading, if-or}
use Rattle.cn_codes.specs.declared.code.CodeKind.{CodeKind}
use Rattle.cn_codes.specs.declared.code.CodeKind.TheVariants.{Plain}
use Rattle.cn_codes.specs.Codes.{Code, code_at, code_by, ends_numeral, is_between_chinese, is_between_figures, is_run, run_code}
use Rattle.cn_codes.specs.Digits.{is_chinese}
use Rattle.cn_codes.specs.Groups.{after_groups, groups_of, groups_within, sign_of}

-- a run is the start of a text
pub leading-leaves : (passes : ℕ → Bool) (text : List ℕ) → begins passes text ≡ true
    → Leaves text (after_leading passes text)
leading-leaves passes [] e = cc
leading-leaves passes (c ∷ text) e =
    let ends = Ends-leading passes text in
    rw e (
      Ends-again (c ∷ text) text (after_leading passes text) (c ∷ [], refl) ends,
      omega (arith, ap length ends.1, length-append ends.0 (after_leading passes text)),
    )

-- a text of which more is left
again : (text rest end : List ℕ) → Leaves text rest → Leaves rest end → Leaves text end
again text rest end h k = (Ends-again text rest end h.0 k.0, omega (arith, h.1, k.1))

module _ (is_digit is_sign : ℕ → Bool) where
  -- after a sign between two runs another run is
  sign-leaves : (rest : List ℕ) → is_some (sign_of is_digit is_sign rest) ≡ true
      → Leaves rest (drop 1 rest) × (begins is_digit (drop 1 rest) ≡ true)
  sign-leaves [] e = cc
  sign-leaves (c ∷ rest) e = (
    ((c ∷ [], refl), omega arith),
    and-right (is_sign c) (begins is_digit rest) (both (is_sign c && begins is_digit rest) e),
  ) where
    both : (b : Bool) → is_some (if b then Some c else None) ≡ true → b ≡ true
    both true h = refl
    both false h = cc

  -- after a run: by whether a sign and another run are after it
  after-run : (more : ℕ) (text rest : List ℕ) → Leaves text rest
      → ((t : List ℕ) → begins is_digit t ≡ true
      → Leaves t (after_groups (groups_within more is_digit is_sign t) t)) → (b : Bool)
      → is_some (sign_of is_digit is_sign rest) ≡ b
      → Leaves text (after_groups (if b then groups_within more is_digit is_sign (drop 1 rest) else []) rest)
  after-run more text rest h others false is = h
  after-run zero text rest h others true is = h
  after-run (suc more) text rest h others true is =
      let sign = sign-leaves rest is in
      again text rest _ h (again rest (drop 1 rest) _ sign.0 (others (drop 1 rest) sign.1))

  groups-leave : (more : ℕ) (text : List ℕ) → begins is_digit text ≡ true
      → Leaves text (after_groups (groups_within (suc more) is_digit is_sign text) text)
  groups-leave zero text e =
      last (is_some (sign_of is_digit is_sign (after_leading is_digit text))) (leading-leaves is_digit text e)
    where
      last : (b : Bool) → Leaves text (after_leading is_digit text)
          → Leaves text (after_groups (if b then [] else []) (after_leading is_digit text))
      last true h = h
      last false h = h
  groups-leave (suc more) text e =
      after-run (suc more) text (after_leading is_digit text) (leading-leaves is_digit text e)
      (λ t h. groups-leave more t h) (is_some (sign_of is_digit is_sign (after_leading is_digit text))) refl

  run-leaves : (front : List ℕ) (in_chinese : Bool) (run text rest : List ℕ) → Leaves text rest
      → IfSome {T = Code} (run_code front in_chinese run rest) (λ code. Leaves text code.rest)
  run-leaves front in_chinese run text rest h =
      by (is_run front in_chinese run rest) (record { kind = Plain; rest = rest }) h where
        by : (b : Bool) (code : Code) → Leaves text code.rest
            → IfSome {T = Code} (if b then Some code else None) (λ each. Leaves text each.rest)
        by true code k = k
        by false code k = tt

  groups-code-leaves : (front : List ℕ) (in_chinese : Bool) (text : List ℕ) (kind : Option CodeKind)
      → begins is_digit text ≡ true
      → IfSome {T = Code} (option_map (λ k. record { kind = k; rest = after_groups (groups_of is_digit is_sign text) text }) kind)
      (λ code. Leaves text code.rest)
  groups-code-leaves front in_chinese text None e = tt
  groups-code-leaves front in_chinese text (Some kind) e = groups-leave 8 text e

  by-leaves : (front : List ℕ) (in_chinese : Bool) (text : List ℕ) → begins is_digit text ≡ true
      → IfSome {T = Code} (code_by front in_chinese is_digit is_sign text) (λ code. Leaves text code.rest)
  by-leaves front in_chinese text e =
      if-or (λ (code : Code). Leaves text code.rest) _ _
      (groups-code-leaves front in_chinese text _ e)
      (run-leaves front in_chinese (leading is_digit text) text (after_leading is_digit text)
      (leading-leaves is_digit text e))

pub code-leaves : (front text : List ℕ) → IfSome {T = Code} (code_at front text) (λ code. Leaves text code.rest)
code-leaves front text = figures (begins is_figure text) refl (not (begins is_figure front)) where
  chinese : (b : Bool) → begins is_chinese text ≡ b → (c : Bool)
      → IfSome {T = Code} (if b && c then code_by front true is_chinese is_between_chinese text else None)
      (λ code. Leaves text code.rest)
  chinese false e c = tt
  chinese true e false = tt
  chinese true e true = by-leaves is_chinese is_between_chinese front true text e

  figures : (b : Bool) → begins is_figure text ≡ b → (c : Bool)
      → IfSome {T = Code} (if b && c then code_by front false is_figure is_between_figures text
      else (if begins is_chinese text && (not (begins is_chinese front) && not (ends_numeral front))
      then code_by front true is_chinese is_between_chinese text else None))
      (λ code. Leaves text code.rest)
  figures true e true = by-leaves is_figure is_between_figures front false text e
  figures true e false = chinese (begins is_chinese text) refl _
  figures false e c = chinese (begins is_chinese text) refl _
