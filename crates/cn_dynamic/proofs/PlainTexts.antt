-- Plain digits with white space between them, and the text after a sign.
use Rattle.std.proofs.Common.{◌≡◌, ℕ, Bool, true, false, ◌||◌, ◌&&◌, List, [], ◌∷◌, filter, drop, chars, is_some, Option, Some, None, refl, sym, ap, ◌∙◌}
use Rattle.std.specs.Char.{is_whitespace, is_not_whitespace}
use Rattle.std.specs.List.{list_all}
use Rattle.chinese_number.specs.Characters.{digit_of}
use Rattle.chinese_number.specs.declared.Sign.{Sign}
use Rattle.chinese_number.specs.Parts.{unsigned_text}
use Rattle.chinese_number.specs.Reading.{leading_sign, sign_len}
use Rattle.chinese_number.specs.Text.{text_of}
use Rattle.chinese_number.specs.Whole.{Kind}
use Rattle.cn_judge.specs.Piece.{StandsAt}
use Rattle.cn_judge.proofs.Pieces.{text_of-rest}
use Rattle.cn_judge.proofs.Walking.{white-mark}
use Rattle.chinese_number.specs.Number.{is_plain}

-- white space is skipped
pub dark_plain : (text : List ℕ)
    → list_all (λ c. is_some (digit_of c) || is_whitespace c) text
    ≡ is_plain (filter is_not_whitespace text)
dark_plain [] = refl
dark_plain (c ∷ text) = by (is_whitespace c) (digit_of c) refl refl (dark_plain text) where
  by : (w : Bool) (d : Option ℕ) → is_whitespace c ≡ w → digit_of c ≡ d
      → list_all (λ c. is_some (digit_of c) || is_whitespace c) text
      ≡ is_plain (filter is_not_whitespace text)
      → ((is_some (digit_of c) || is_whitespace c)
      && list_all (λ c. is_some (digit_of c) || is_whitespace c) text)
      ≡ is_plain (filter is_not_whitespace (c ∷ text))
  by true None e f h = rw (e, f) h
  by false None e f h = rw (e, f) refl
  by false (Some value) e f h = rw (e, f) h
  by true (Some value) e f h = let no = white-mark c e in cc

-- the text after the sign, as the code splits it off, is the text that the definitions read
pub unsigned_text-rest : (kind : Kind) (signed : Bool) (text rest : List ℕ) (skipped : ℕ)
    (sign : Option Sign) → kind.signed ≡ signed → sign ≡ leading_sign signed (text_of text)
    → StandsAt text (chars rest) skipped (sign_len sign) → unsigned_text kind text ≡ text_of rest
unsigned_text-rest kind signed text rest skipped sign same leads at =
    ap (λ s. drop (sign_len (leading_sign s (text_of text))) (text_of text)) same
    ∙ ap (λ s. drop (sign_len s) (text_of text)) (sym leads)
    ∙ text_of-rest text rest skipped (sign_len sign) at
