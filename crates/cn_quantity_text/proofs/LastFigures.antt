-- Writing figures from the last to the first.
use Rattle.std.proofs.Common.{◌≡◌, ℕ, zero, suc, ◌+◌, ◌/◌, ◌%◌, ◌^◌, ◌<◌, ◌≤◌, List, [], ◌∷◌, ◌++◌, length, map, decimal, encode_utf8_all, refl, sym, ap, ap₂, ◌∙◌, append_assoc, length-append, arith}
use Rattle.std.proofs.Math.Nat.{mod-lt}
use Rattle.std.proofs.lemmas.Fmt.{decimal_digit, decimal_step_wide, length-decimal-le_wide}
use Rattle.std.proofs.lemmas.Str.{encode_ascii}
use Rattle.std.specs.Char.{encode_utf8}
use Rattle.cn_quantity_text.specs.Digits.{behind_point, last_digits}
use Rattle.cn_quantity_text.specs.Figures.{figure_char}

-- each figure is one byte
pub byte-of : (digit : ℕ) → digit < 10 → encode_utf8 (figure_char digit) ≡ figure_char digit ∷ []
byte-of digit low = encode_ascii (figure_char digit) (omega (arith, low))

last-low : (n : ℕ) → n % 10 < 10
last-low n = mod-lt n (omega arith)

pub last-bytes : (count number : ℕ)
    → encode_utf8_all (map figure_char (last_digits count number))
    ≡ map figure_char (last_digits count number)
last-bytes zero number = refl
last-bytes (suc count) number =
    ap₂ (λ one rest. one ++ rest) (byte-of (number / 10 ^ count % 10) (last-low (number / 10 ^ count)))
    (last-bytes count number)

pub behind-bytes : (count number : ℕ) → encode_utf8_all (behind_point 46 figure_char count number)
    ≡ behind_point 46 figure_char count number
behind-bytes zero number = refl
behind-bytes (suc count) number =
    ap₂ (λ one rest. one ++ rest) (encode_ascii 46 (omega arith)) (last-bytes (suc count) number)

-- a number of 128 bits has at most 39 figures
pub few-figures : (n : ℕ) → n < 2 ^ 128 → length (decimal n) ≤ 39
few-figures n small =
    length-decimal-le_wide 39 n (omega arith) (omega (arith, small)) (omega (arith, small))

-- the last figure, before a text
pub figures-step : (n : ℕ) (rest : List ℕ) → 10 ≤ n → n < 2 ^ 128
    → decimal (n / 10) ++ (encode_utf8 (figure_char (n % 10)) ++ rest) ≡ decimal n ++ rest
figures-step n rest ten small =
    ap (λ one. decimal (n / 10) ++ (one ++ rest)) (byte-of (n % 10) (last-low n))
    ∙ sym (append_assoc (decimal (n / 10)) (figure_char (n % 10) ∷ []) rest)
    ∙ ap (λ whole. whole ++ rest) (sym (decimal_step_wide n ten (omega (arith, small))))

-- the number has one more figure before it
pub figures-more : (n : ℕ) → 10 ≤ n → n < 2 ^ 128
    → length (decimal (n / 10)) + 1 ≡ length (decimal n)
figures-more n ten small =
    let step = ap length (decimal_step_wide n ten (omega (arith, small))) in
    omega (arith, step, length-append (decimal (n / 10)) (figure_char (n % 10) ∷ []))

-- the only figure
pub figures-last : (n : ℕ) (rest : List ℕ) → n < 10
    → encode_utf8 (figure_char n) ++ rest ≡ decimal n ++ rest
figures-last n rest low =
    ap (λ one. one ++ rest) (byte-of n low ∙ sym (decimal_digit n low))

pub figures-one : (n : ℕ) → n < 10 → length (decimal n) ≡ 1
figures-one n low = ap length (decimal_digit n low)
