-- Worked examples: the values that the definitions compute.
use Rattle.std.proofs.Common.{◌≡◌, ℕ, true, false, List, [], ◌∷◌, Some, None, Ok, Err, codes, inl, refl}
use Rattle.std.specs.Prelude.{encode_utf8_all}
use Rattle.std.specs.Char.{encode_utf8}
use Rattle.std.specs.Str.{chars}
use Rattle.chinese_number.specs.Characters.{digit_char, unit_char}
use Rattle.cn_figures.specs.declared.error.FiguresError.TheVariants.{Unfinished}
use Rattle.cn_figures.proofs.Examples.{yuan_alone, behind_point}
use Rattle.cheque.specs.DateFigures.{IsDateFigures}
use Rattle.cheque.specs.Reply.{Replies, answered, refused}
use Rattle.cheque.specs.Request.{asked, read, read_date, write, write_date}

abbrev alone : List ℕ → List (List ℕ)
alone word = word ∷ []

amount : asked (alone (codes "1409.50")) ≡ Some (write (codes "1409.50") false)
unfolding chars
amount = refl

amount_behind_prefix : asked (codes "--prefix" ∷ codes "15" ∷ []) ≡ Some (write (codes "15") true)
unfolding chars
amount_behind_prefix = refl

date : asked (alone (codes "2026-01-15")) ≡ Some (write_date (codes "2026-01-15"))
date = refl

date_behind_prefix : asked (codes "--prefix" ∷ codes "2026-01-15" ∷ []) ≡ None
unfolding chars
date_behind_prefix = refl

sign : asked (alone (codes "-1")) ≡ Some (write (codes "-1") false)
unfolding chars
sign = refl

full_width : asked (alone (encode_utf8_all (codes "１５")))
    ≡ Some (write (encode_utf8_all (codes "１５")) false)
unfolding encode_utf8 chars
full_width = refl

currency : asked (alone (encode_utf8_all (codes "¥15")))
    ≡ Some (write (encode_utf8_all (codes "¥15")) false)
unfolding encode_utf8 chars
currency = refl

capitals : asked (alone (encode_utf8_all (codes "壹元整")))
    ≡ Some (read (encode_utf8_all (codes "壹元整")))
unfolding encode_utf8 chars
capitals = refl

date_capitals : asked (alone (encode_utf8_all (codes "伍年叁月零壹日")))
    ≡ Some (read_date (encode_utf8_all (codes "伍年叁月零壹日")))
unfolding encode_utf8 chars
date_capitals = refl

no_words : asked [] ≡ None
no_words = refl

date_figures : IsDateFigures (codes "2026-01-15") (record { year = 2026; month = 1; day = 15 })
date_figures = record {
  year = codes "2026";
  month = codes "01";
  day = codes "15";
  writes_year = (refl, refl, refl);
  writes_month = (refl, refl, refl);
  writes_day = (refl, refl, refl);
  form = refl;
}

prefixed : Replies (asked (codes "--prefix" ∷ codes "0015" ∷ []))
    (answered (encode_utf8_all (codes "人民币壹拾伍元整")))
unfolding chars digit_char unit_char encode_utf8
prefixed = (Ok 1500, (1500, yuan_alone, refl), inl refl)

unfinished : Replies (asked (alone (codes "15."))) (refused (codes "the amount is not finished"))
unfolding chars
unfinished = (Err Unfinished, behind_point, refl)
