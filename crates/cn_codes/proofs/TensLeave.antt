-- A version whose first number is written with 十 is at the start of a text, and something is left of it.
use Rattle.std.proofs.Common.{◌≡◌, ℕ, Bool, true, false, ◌&&◌, not, nat_le, List, [], ◌∷◌, length, drop, codes, Option, Some, None, IfSome, refl, ap, arith, length-append, if◌then◌else◌}
use Rattle.std.specs.Option.{option_and_then}
use Rattle.cn_find.specs.Belongs.{begins_with}
use Rattle.cn_replace.specs.Pieces.{after_leading, begins, leading}
use Rattle.cn_phrase.specs.Suffix.{EndsWith}
use Rattle.cn_phrase.proofs.ItemSteps.{Leaves}
use Rattle.cn_phrase.proofs.Suffixes.{Ends-again, Ends-leading, Ends-self, if-then}
use Rattle.cn_codes.specs.declared.code.CodeKind.TheVariants.{Pointed}
use Rattle.cn_codes.specs.Codes.{Code, ends_numeral, is_pointed_chinese}
use Rattle.cn_codes.specs.Digits.{is_chinese}
use Rattle.cn_codes.specs.Groups.{Group}
use Rattle.cn_codes.specs.Tens.{after_tens, begins_tens, from_ten, is_one_to_nine, number_at, tens_version_at, version_after, version_with}
use Rattle.cn_codes.proofs.CodeLeaves.{leading-leaves}

-- a suffix of which more is left
within : (text rest end : List ℕ) → EndsWith text rest → Leaves rest end → Leaves text end
within text rest end h k = (
  Ends-again text rest end h k.0,
  omega (arith, ap length h.1, length-append h.0 rest, k.1),
)

Ends-drop : (text : List ℕ) → EndsWith text (drop 1 text)
Ends-drop [] = Ends-self []
Ends-drop (c ∷ text) = (c ∷ [], refl)

number-leaves : (text : List ℕ) → IfSome {T = Group} (number_at text) (λ group. Leaves text group.rest)
number-leaves text =
    by (begins_with (codes "点點") text) (begins is_chinese (drop 1 text)) refl
    (nat_le (length (leading is_chinese (drop 1 text))) 4) where
      by : (a b : Bool) → begins is_chinese (drop 1 text) ≡ b → (c : Bool)
          → IfSome {T = Group} (if a && (b && c) then Some (record {
            digits = leading is_chinese (drop 1 text);
            sign = None;
            rest = after_leading is_chinese (drop 1 text);
          }) else None) (λ group. Leaves text group.rest)
      by false b e c = tt
      by true false e c = tt
      by true true e false = tt
      by true true e true =
          within text (drop 1 text) (after_leading is_chinese (drop 1 text)) (Ends-drop text)
          (leading-leaves is_chinese (drop 1 text) e)

last-leaves : (text : List ℕ) (last : Group) → Leaves text last.rest
    → IfSome {T = Code} (version_with last) (λ code. Leaves text code.rest)
last-leaves text last h = by (is_pointed_chinese (last ∷ []) last.rest) where
  by : (b : Bool) → IfSome {T = Code} (if b then Some (record { kind = Pointed; rest = last.rest })
      else None) (λ code. Leaves text code.rest)
  by true = h
  by false = tt

version-leaves : (text : List ℕ)
    → IfSome {T = Code} (version_after text) (λ code. Leaves text code.rest)
version-leaves text =
    if-then (λ (second : Group). Leaves text second.rest) (λ (code : Code). Leaves text code.rest)
    (λ second. option_and_then version_with (number_at second.rest)) (number_at text)
    (number-leaves text)
    (λ second h. if-then (λ (last : Group). Leaves second.rest last.rest)
    (λ (code : Code). Leaves text code.rest) version_with (number_at second.rest)
    (number-leaves second.rest)
    (λ last k. last-leaves text last (within text second.rest last.rest h.0 k)))

code-within : (text rest : List ℕ) → EndsWith text rest → (o : Option Code)
    → IfSome {T = Code} o (λ code. Leaves rest code.rest)
    → IfSome {T = Code} o (λ code. Leaves text code.rest)
code-within text rest h None k = tt
code-within text rest h (Some code) k = within text rest code.rest h k

tens-end : (text : List ℕ) → EndsWith text (after_tens text)
tens-end text =
    Ends-again text (from_ten text) (after_tens text) (Ends-leading is_one_to_nine text)
    (Ends-again (from_ten text) (drop 1 (from_ten text)) (after_tens text)
    (Ends-drop (from_ten text)) (Ends-leading is_one_to_nine (drop 1 (from_ten text))))

pub tens-version-leaves : (front text : List ℕ)
    → IfSome {T = Code} (tens_version_at front text) (λ code. Leaves text code.rest)
tens-version-leaves front text =
    by (begins_tens text && (not (begins is_chinese front) && not (ends_numeral front))) where
      by : (b : Bool) → IfSome {T = Code} (if b then version_after (after_tens text) else None)
          (λ code. Leaves text code.rest)
      by true = code-within text (after_tens text) (tens-end text) (version_after (after_tens text))
          (version-leaves (after_tens text))
      by false = tt
