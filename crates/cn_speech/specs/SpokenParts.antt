-- The parts of a text that have figures: those that are spoken, and those that are left.
use Rattle.std.specs.Prelude.{ℕ, nat_le, Bool, true, false, not, ◌&&◌, ◌||◌, List, [], ◌∷◌, ◌++◌, length, drop, codes, chars, Option, Some, None, if◌then◌else◌}
use Rattle.std.specs.Char.{char_set_contains, is_ascii_alphabetic}
use Rattle.std.specs.Option.{option_and_then, option_map, option_map_or, option_or}
use Rattle.cn_core.specs.declared.script.ChineseVariant.{ChineseVariant}
use Rattle.cn_core.specs.declared.script.ChineseVariant.TheVariants.{Simple, Traditional}
use Rattle.cn_core.specs.FigureCharacters.{is_figure}
use Rattle.cn_find.specs.Belongs.{begins_with}
use Rattle.cn_find.specs.declared.wanted.Wanted.{Wanted}
use Rattle.cn_phrase.specs.Between.{characters_before}
use Rattle.cn_phrase.specs.Suffix.{EndsWith}
use Rattle.cn_phrase.specs.Items.{Item, item_at, item_of, rest_of}
use Rattle.cn_replace.specs.Pieces.{begins}
use Rattle.cn_codes.specs.Codes.{Code, code_at, code_of}
use Rattle.cn_speech.specs.declared.part.Part.{Part as CodePart}
use Rattle.cn_speech.specs.declared.part.Part.TheVariants as part_in_code
use Rattle.cn_speech.specs.declared.part.Said.{Said as CodeSaid}
use Rattle.cn_speech.specs.declared.part.Said.TheVariants as said_in_code
use Rattle.cn_speech.specs.declared.part.Utterance.{Utterance as CodeUtterance}
use Rattle.cn_speech.specs.declared.voice.Voice.{Voice}
use Rattle.cn_speech.specs.Joined.{has_figure}
use Rattle.cn_speech.specs.Pairs.{SaidPair, pair_at, pair_said, said_of as pair_of}
use Rattle.cn_speech.specs.SpokenCodes.{code_in_speech}
use Rattle.cn_speech.specs.SpokenItems.{after_item, has_unit, is_item_said, is_of_day, item_said}
use Rattle.cn_speech.specs.SpokenMoney.{follows_currency}
use Rattle.cn_speech.specs.Tails.{Tail, tail_at, tail_of, tail_said}
use Rattle.cn_speech.specs.Voice.{word}

-- ---- What is said

-- a pair, a code or an item of phrases
pub data Said : Type 0 where
  pair : SaidPair → Said
  code : Code → Said
  item : Item → Said

abbrev pub said_of : CodeSaid → Said
said_of (said_in_code.Pair p) = pair (pair_of p)
said_of (said_in_code.Code c) = code (code_of c)
said_of (said_in_code.Item i) = item (item_of i)

-- what is said for it, where it begins with this text, after these characters
abbrev pub said_text : Voice → List ℕ → List ℕ → Said → List ℕ
said_text voice front text (pair p) = pair_said voice p
said_text voice front text (code c) = code_in_speech voice text c
said_text voice front text (item i) = item_said voice front text i

abbrev pub after_said : Said → List ℕ
after_said (pair p) = p.rest
after_said (code c) = c.rest
after_said (item i) = after_item i

-- with the name of a currency after it, or nothing, and a tail
pub record Utterance : Type 0 where
  pub said : Said
  pub name : List ℕ
  pub tail : Option Tail

abbrev pub utterance_of : CodeUtterance → Utterance
utterance_of u = record {
  said = said_of u.said;
  name = chars u.name.now;
  tail = option_map tail_of u.tail;
}

abbrev pub is_traditional : ChineseVariant → Bool
is_traditional Simple = false
is_traditional Traditional = true

-- the name of a currency, or nothing: in the traditional script `$` is the local dollar
abbrev pub name_said : Voice → List ℕ → List ℕ
name_said voice name =
    if is_traditional voice.variant && begins_with (codes "美") name then codes "元"
    else word voice name

abbrev pub utterance_text : Voice → List ℕ → List ℕ → Utterance → List ℕ
utterance_text voice front text u =
    said_text voice front text u.said ++ (name_said voice u.name ++ tail_said voice u.tail)

abbrev pub after_utterance : Utterance → List ℕ
after_utterance u = option_map_or (λ tail. tail.rest) u.tail (after_said u.said)

-- ---- Parts

-- a part is spoken; or spoken after a sign, for which this word is said; or left, with this text after it
pub data Part : Type 0 where
  spoken : Utterance → Part
  signed : List ℕ → Utterance → Part
  left : List ℕ → Part

-- what a `Part` in the code is
abbrev pub part_of : CodePart → Part
part_of (part_in_code.Spoken u) = spoken (utterance_of u)
part_of (part_in_code.Signed sign u) = signed (chars sign.now) (utterance_of u)
part_of (part_in_code.Left rest) = left (chars rest.now)

abbrev pub rest_of_part : Part → List ℕ
rest_of_part (spoken u) = after_utterance u
rest_of_part (signed sign u) = after_utterance u
rest_of_part (left rest) = rest

-- what is said is at the start of this text
abbrev pub IsWithin : List ℕ → Said → Type 0
IsWithin text (pair p) = Unit
IsWithin text (code c) = EndsWith text c.rest
IsWithin text (item i) = EndsWith text (rest_of i)

-- what is said for a sign and a part after it
abbrev pub signed_text : Voice → List ℕ → List ℕ → List ℕ → Utterance → List ℕ
signed_text voice front [] sign u = []
signed_text voice front (c ∷ text) sign u =
    word voice sign ++ utterance_text voice (c ∷ front) text u

-- what is said for a part is at the start of this text, or after its sign
abbrev pub IsPartWithin : List ℕ → Part → Type 0
IsPartWithin text (spoken u) = IsWithin text u.said
IsPartWithin text (signed sign u) = IsWithin (drop 1 text) u.said
IsPartWithin text (left rest) = Unit

-- the new text of a part with which a text begins, where `given` are its characters as they were given
abbrev pub part_text : Voice → List ℕ → List ℕ → List ℕ → Part → List ℕ
part_text voice front text given (spoken u) = utterance_text voice front text u
part_text voice front text given (signed sign u) = signed_text voice front text sign u
part_text voice front text given (left rest) = given

-- ---- Which part begins at a place

abbrev pub pair_part : SaidPair → Part
pair_part p =
    spoken (record { said = pair p; name = []; tail = tail_at false false p.rest })

abbrev pub code_part : Code → Part
code_part c =
    spoken (record { said = code c; name = []; tail = tail_at false false c.rest })

abbrev pub item_part : Item → Part
item_part i = spoken (record {
  said = item i;
  name = [];
  tail = tail_at (is_of_day i) (has_unit i) (after_item i);
})

-- an item is spoken if it has a figure; but not the number of another currency, whose name is said too
abbrev pub is_item_spoken : List ℕ → List ℕ → Item → Bool
is_item_spoken front text i =
    has_figure (characters_before text (rest_of i))
    && (not (follows_currency front) && is_item_said front text i)

abbrev pub item_or_left : List ℕ → List ℕ → Item → Part
item_or_left front text i =
    if is_item_spoken front text i then item_part i else left (rest_of i)

-- a code, if it has figures: one of Chinese characters stays
abbrev pub code_of_figures : List ℕ → List ℕ → Option Code
code_of_figures front text = if begins is_figure text then code_at front text else None

-- the part that begins with a text, without a sign before it: the first of a pair, a code and an item
abbrev pub number_at : Wanted → List ℕ → List ℕ → Option Part
number_at wanted front text =
    option_or (option_map pair_part (pair_at front text))
    (option_or (option_map code_part (code_of_figures front text))
    (option_map (item_or_left front text) (item_at wanted front text)))

-- ---- Signs before a number

-- what is said for a sign before a number
abbrev pub sign_word : ℕ → Option (List ℕ)
sign_word c =
    if char_set_contains (codes "≥") c then Some (codes "大于等于")
    else (if char_set_contains (codes "≤") c then Some (codes "小于等于")
    else (if char_set_contains (codes "±") c then Some (codes "正负")
    else (if char_set_contains (codes "≈") c then Some (codes "约等于") else None)))

abbrev pub with_sign : List ℕ → Option Part → Option Part
with_sign sign (Some (spoken u)) = Some (signed sign u)
with_sign sign other = None

-- the name of a currency, which is said after its number
abbrev pub currency_name : ℕ → Option (List ℕ)
currency_name c =
    if char_set_contains (codes "$＄") c then Some (codes "美元")
    else (if char_set_contains (codes "€") c then Some (codes "欧元")
    else (if char_set_contains (codes "£") c then Some (codes "英镑") else None))

-- an item after the sign of a currency is spoken: it has a figure, and is not one character, and no
-- letter is before the sign, as in HK$5
abbrev pub is_of_currency : List ℕ → List ℕ → Item → Bool
is_of_currency front text i =
    has_figure (characters_before text (rest_of i))
    && (nat_le 2 (length (characters_before text (rest_of i)))
    && (not (begins is_ascii_alphabetic (drop 1 front)) && is_item_said front text i))

abbrev pub named : List ℕ → Item → Part
named name i = signed [] (record {
  said = item i;
  name = name;
  tail = tail_at false true (after_item i);
})

abbrev pub currency_at : Wanted → List ℕ → List ℕ → List ℕ → Option Part
currency_at wanted front text name =
    option_and_then (λ i. if is_of_currency front text i then Some (named name i) else None)
    (item_at wanted front text)

-- a part after a character: a sign, for which this is said, or the sign of a currency
abbrev pub after_sign : Wanted → List ℕ → List ℕ → Option (List ℕ) → Option (List ℕ) → Option Part
after_sign wanted front text (Some sign) name = with_sign sign (number_at wanted front text)
after_sign wanted front text None (Some name) = currency_at wanted front text name
after_sign wanted front text None None = None

abbrev pub signed_at : Wanted → List ℕ → List ℕ → Option Part
signed_at wanted front [] = None
signed_at wanted front (c ∷ text) =
    after_sign wanted (c ∷ front) text (sign_word c) (currency_name c)

-- the part that begins with a text, if one does
abbrev pub part_at : Wanted → List ℕ → List ℕ → Option Part
part_at wanted front text = option_or (number_at wanted front text) (signed_at wanted front text)
