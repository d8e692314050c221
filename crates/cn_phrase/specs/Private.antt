-- Definitions that only the contracts of private functions use: quick tests, which most characters of a
-- text fail.
use Rattle.std.specs.Prelude.{ℕ, Bool, true, false, ◌||◌, List, [], ◌∷◌, codes, filter, if◌then◌else◌}
use Rattle.std.specs.Char.{char_set_contains}
use Rattle.cn_core.specs.FigureCharacters.{is_figure}
use Rattle.cn_core.specs.Mark.{Mark, mark_of}
use Rattle.cn_core.specs.Mark.{other}
use Rattle.cn_find.specs.Expressions.{is_extra}
use Rattle.cn_replace.specs.Pieces.{after_leading, begins}
use Rattle.cn_phrase.specs.declared.form.Form.{Form}
use Rattle.cn_phrase.specs.declared.piece.Piece.{Piece}
use Rattle.cn_phrase.specs.declared.piece.Piece.TheVariants.{Slot, Fixed}
use Rattle.cn_phrase.specs.declared.word.Word.{Word}
use Rattle.cn_phrase.specs.declared.word.Word.TheVariants.{Nian, Yue, Ri, Dian, Shi, Colon, Dash, Slash, Bi, Mi, Link, Hours, Minutes, HalfOf, HalfAfter}
use Rattle.cn_phrase.specs.Forms.{pieces_of}
use Rattle.cn_phrase.specs.Phrases.{all_forms}
use Rattle.cn_phrase.specs.Pieces.{is_numeral, without_blank}

-- the characters with which a word after the first number of a form begins
abbrev pub firsts : Word → List ℕ
firsts Nian = codes "年"
firsts Yue = codes "月"
firsts Ri = codes "日号號"
firsts Dian = codes "点點"
firsts Shi = codes "点點时時"
firsts Colon = codes ":："
firsts Dash = codes "-"
firsts Slash = codes "/"
firsts Bi = codes "比"
firsts Mi = codes "米度秒"
firsts Link = codes "到至~～－–—〜-"
firsts Hours = codes "个個小钟鐘"
firsts Minutes = codes "分"
firsts HalfOf = codes "个個"
firsts HalfAfter = codes "年天周週岁歲斤里吨噸倍米度"
firsts word = []

-- the first word of these pieces, after a number, can begin with the character
abbrev pub has_first : ℕ → List Piece → Bool
has_first c (Slot shape ∷ Fixed word ∷ pieces) = char_set_contains (firsts word) c
has_first c pieces = false

-- the forms whose first word can begin with the character
unfoldable pub forms_with : ℕ → List Form
forms_with c = filter (λ form. has_first c (pieces_of form)) all_forms

abbrev pub forms_before : List ℕ → List Form
forms_before [] = []
forms_before (c ∷ rest) = forms_with c

-- the forms that can begin with a text, by the character after its first number
abbrev pub forms_at : List ℕ → List Form
forms_at text =
    if begins is_numeral text
    then forms_before (without_blank (begins is_figure text) (after_leading is_numeral text)) else []

-- the character can begin a word of half a day or a weekday
unfoldable pub may_lead : ℕ → Bool
may_lead c = char_set_contains (codes "凌清早上中下正傍今明昨当當深半午夜晚周週星礼禮") c

abbrev pub is_marked : Mark → Bool
is_marked other = false
is_marked mark = true

-- an item can begin with the character
abbrev pub may_be_first : ℕ → Bool
may_be_first c = is_marked (mark_of c) || (is_figure c || (is_extra c || may_lead c))
