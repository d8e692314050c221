-- A text without figures is spoken as it is written.
use Rattle.std.proofs.Common.{◌≡◌, ℕ, zero, suc, Bool, true, false, not, ◌&&◌, ◌||◌, ◌==◌, List, [], ◌∷◌, ◌++◌, length, take, drop, chars, encode_utf8_all, IsUtf8, Option, Some, None, option_map, refl, sym, ap, subst, ◌∙◌, arith, take-append-drop, if◌then◌else◌}
use Rattle.std.proofs.Math.Utf8.{scalar, scalars}
use Rattle.std.proofs.lemmas.Str.{chars-encodes, encodes-chars, scalars-chars}
use Rattle.std.specs.List.{list_any}
use Rattle.std.specs.Option.{option_and_then, option_or}
use Rattle.cn_core.proofs.Fronts.{and-left, and-right}
use Rattle.cn_core.specs.FigureCharacters.{is_figure}
use Rattle.cn_find.specs.declared.wanted.Wanted.{Wanted}
use Rattle.cn_replace.specs.Pieces.{after_leading, begins, is_letter_or_figure, leading}
use Rattle.cn_phrase.specs.Items.{Item, item_at, rest_of}
use Rattle.cn_phrase.specs.Between.{characters_before}
use Rattle.cn_codes.specs.Codes.{Code, code_at}
use Rattle.cn_speech.specs.declared.voice.Voice.{Voice}
use Rattle.cn_speech.specs.Joined.{has_figure}
use Rattle.cn_speech.specs.Meant.{as_meant, is_colon, is_link_after, is_minus, label_sign, link_sign, meant, meant_from}
use Rattle.cn_speech.specs.Pairs.{Pair, is_short, is_sign, pair_at, pair_from, runs_at, said_if}
use Rattle.cn_speech.specs.Speech.{passed_by, speech_from, text_here, text_in_speech}
use Rattle.cn_speech.specs.SpokenItems.{is_item_said}
use Rattle.cn_speech.specs.SpokenMoney.{follows_currency}
use Rattle.cn_speech.specs.SpokenParts.{Part, after_sign, code_of_figures, code_part, currency_at, currency_name, is_of_currency, item_or_left, item_part, left, named, number_at, pair_part, part_at, sign_word, signed, signed_at, spoken, with_sign}

-- ---- A text without figures

or-left : (a b : Bool) → (a || b) ≡ false → a ≡ false
or-left true b e = cc
or-left false b e = refl

or-right : (a b : Bool) → (a || b) ≡ false → b ≡ false
or-right true b e = cc
or-right false b e = e

any-taken : (n : ℕ) (text : List ℕ) → has_figure text ≡ false → has_figure (take n text) ≡ false
any-taken zero text e = refl
any-taken (suc n) [] e = refl
any-taken (suc n) (c ∷ text) e =
    ap (λ b. b || has_figure (take n text)) (or-left (is_figure c) (has_figure text) e)
    ∙ any-taken n text (or-right (is_figure c) (has_figure text) e)

-- no pair begins
no-runs : (text : List ℕ) → has_figure text ≡ false → runs_at text ≡ None
no-runs [] e = refl
no-runs (c ∷ text) e = by (is_figure c) (or-left (is_figure c) (has_figure text) e) where
  none : (t : List ℕ) → pair_from [] t ≡ None
  none [] = refl
  none (d ∷ t) = off (is_sign d) (record {
    first = [];
    sign = d;
    second = leading is_figure t;
    rest = after_leading is_figure t;
  }) where
    off : (b : Bool) (p : Pair)
        → (if b && (false && is_short (leading is_figure t)) then Some p else None) ≡ None
    off true p = refl
    off false p = refl

  by : (b : Bool) → b ≡ false → pair_from (if b then c ∷ leading is_figure text else [])
      (if b then after_leading is_figure text else c ∷ text) ≡ None
  by true h = cc
  by false h = none (c ∷ text)

no-figure-begins : (text : List ℕ) → has_figure text ≡ false → begins is_figure text ≡ false
no-figure-begins [] e = refl
no-figure-begins (c ∷ text) e = or-left (is_figure c) (has_figure text) e

-- a part that is not spoken
abbrev IsUnsaid : Option Part → Type 0
IsUnsaid None = Unit
IsUnsaid (Some (left rest)) = Unit
IsUnsaid (Some (spoken u)) = ⊥
IsUnsaid (Some (signed sign u)) = ⊥

item-unsaid : (front text : List ℕ) (o : Option Item) → has_figure text ≡ false
    → IsUnsaid (option_map (item_or_left front text) o)
item-unsaid front text None e = tt
item-unsaid front text (Some i) e =
    by (has_figure (characters_before text (rest_of i))) _ (any-taken _ text e) where
      by : (b k : Bool) → b ≡ false
          → IsUnsaid (Some (if b && k then item_part i else left (rest_of i)))
      by true k h = cc
      by false k h = tt

number-unsaid : (wanted : Wanted) (front text : List ℕ) → has_figure text ≡ false
    → IsUnsaid (number_at wanted front text)
number-unsaid wanted front text e = rw (no-runs text e, no-figure-begins text e)
    (item-unsaid front text (item_at wanted front text) e)

sign-unsaid : (sign : List ℕ) (o : Option Part) → IsUnsaid o → IsUnsaid (with_sign sign o)
sign-unsaid sign None h = tt
sign-unsaid sign (Some (left rest)) h = tt
sign-unsaid sign (Some (spoken u)) h = absurd h
sign-unsaid sign (Some (signed other u)) h = tt

currency-unsaid : (wanted : Wanted) (front text name : List ℕ) → has_figure text ≡ false
    → IsUnsaid (currency_at wanted front text name)
currency-unsaid wanted front text name e = by (item_at wanted front text) where
  chosen : (i : Item) (b k : Bool) → b ≡ false → IsUnsaid (if b && k then Some (named name i) else None)
  chosen i true k h = cc
  chosen i false k h = tt

  by : (o : Option Item) → IsUnsaid (option_and_then (λ i.
      if is_of_currency front text i then Some (named name i) else None) o)
  by None = tt
  by (Some i) = chosen i (has_figure (characters_before text (rest_of i))) _ (any-taken _ text e)

signed-unsaid : (wanted : Wanted) (front text : List ℕ) → has_figure text ≡ false
    → IsUnsaid (signed_at wanted front text)
signed-unsaid wanted front [] e = tt
signed-unsaid wanted front (c ∷ text) e = by (sign_word c) (currency_name c) where
  none : has_figure text ≡ false
  none = or-right (is_figure c) (has_figure text) e

  by : (sign name : Option (List ℕ)) → IsUnsaid (after_sign wanted (c ∷ front) text sign name)
  by (Some sign) name = sign-unsaid sign _ (number-unsaid wanted (c ∷ front) text none)
  by None (Some name) = currency-unsaid wanted (c ∷ front) text name none
  by None None = tt

part-unsaid : (wanted : Wanted) (front text : List ℕ) → has_figure text ≡ false
    → IsUnsaid (part_at wanted front text)
part-unsaid wanted front text e =
    by (number_at wanted front text) (number-unsaid wanted front text e) where
      by : (o : Option Part) → IsUnsaid o → IsUnsaid (option_or o (signed_at wanted front text))
      by None h = signed-unsaid wanted front text e
      by (Some (left rest)) h = tt
      by (Some (spoken u)) h = h
      by (Some (signed sign u)) h = h

-- ---- It is given as it is

taken-all : (n : ℕ) (given : List ℕ) → take (suc n) given ++ drop n (drop 1 given) ≡ given
taken-all zero [] = refl
taken-all (suc n) [] = refl
taken-all n (c ∷ given) = ap (λ l. c ∷ l) (take-append-drop n given)

dropped : (n : ℕ) (given : List ℕ) → drop n (drop 1 given) ≡ drop (suc n) given
dropped zero [] = refl
dropped (suc n) [] = refl
dropped n (c ∷ given) = refl

drop-none : (n : ℕ) (given : List ℕ) → length given ≡ 0 → [] ≡ drop n given
drop-none zero [] e = refl
drop-none (suc n) [] e = refl
drop-none n (c ∷ given) e = cc

text-unsaid : (voice : Voice) (front text given : List ℕ) (o : Option Part) → IsUnsaid o
    → text_here voice front text given o ≡ given
text-unsaid voice front text given None h = refl
text-unsaid voice front text given (Some (left rest)) h = refl
text-unsaid voice front text given (Some (spoken u)) h = absurd h
text-unsaid voice front text given (Some (signed sign u)) h = absurd h

speech-stays : (voice : Voice) (wanted : Wanted) (passed : ℕ) (front ahead given : List ℕ)
    → has_figure ahead ≡ false → length given ≡ length ahead
    → speech_from voice wanted passed front ahead given ≡ drop passed given
speech-stays voice wanted passed front [] given e same = drop-none passed given same
speech-stays voice wanted (suc passed) front (c ∷ ahead) given e same =
    speech-stays voice wanted passed (c ∷ front) ahead (drop 1 given)
    (or-right (is_figure c) (has_figure ahead) e) (shorter given same)
    ∙ dropped passed given where
      shorter : (l : List ℕ) → length l ≡ suc (length ahead) → length (drop 1 l) ≡ length ahead
      shorter [] h = cc
      shorter (d ∷ l) h = omega (arith, h)
speech-stays voice wanted zero front (c ∷ ahead) given e same =
    ap (λ l. l ++ speech_from voice wanted n (c ∷ front) ahead (drop 1 given))
    (text-unsaid voice front (c ∷ ahead) (take (suc n) given) part
    (part-unsaid wanted front (c ∷ ahead) e))
    ∙ ap (λ l. take (suc n) given ++ l) (speech-stays voice wanted n (c ∷ front) ahead (drop 1 given)
    (or-right (is_figure c) (has_figure ahead) e) (shorter given same))
    ∙ taken-all n given where
      part : Option Part
      part = part_at wanted front (c ∷ ahead)

      n : ℕ
      n = passed_by ahead part

      shorter : (l : List ℕ) → length l ≡ suc (length ahead) → length (drop 1 l) ≡ length ahead
      shorter [] h = cc
      shorter (d ∷ l) h = omega (arith, h)

-- ---- Signs as they are meant are no figures

abbrev KeepsNone : ℕ → ℕ → Type 0
KeepsNone c d = (is_figure c ≡ false → is_figure d ≡ false) × (scalar c ≡ true → scalar d ≡ true)

label-none : (c : ℕ) → KeepsNone c (label_sign c)
unfolding label_sign
label-none c = by (c == 0x3A) where
  by : (b : Bool) → KeepsNone c (if b then 0x3B else 0xFF1B)
  by true = (λ e. refl, λ e. refl)
  by false = (λ e. refl, λ e. refl)

link-none : (c : ℕ) → KeepsNone c (link_sign c)
unfolding link_sign
link-none c = by (c == 0x2D) where
  by : (b : Bool) → KeepsNone c (if b then 0x7E else 0xFF5E)
  by true = (λ e. refl, λ e. refl)
  by false = (λ e. refl, λ e. refl)

meant-none : (front : List ℕ) (c : ℕ) (rest : List ℕ) → KeepsNone c (meant front c rest)
meant-none front c rest = by (is_colon c && not (begins is_letter_or_figure front))
    (is_minus c && (begins is_figure rest && is_link_after front)) where
      by : (a b : Bool) → KeepsNone c
          (if a then label_sign c else (if b then link_sign c else c))
      by true b = label-none c
      by false true = link-none c
      by false false = (λ e. e, λ e. e)

meant-figures : (front text : List ℕ) → has_figure text ≡ false
    → has_figure (meant_from front text) ≡ false
meant-figures front [] e = refl
meant-figures front (c ∷ text) e =
    ap (λ b. b || has_figure (meant_from (c ∷ front) text))
    ((meant-none front c text).0 (or-left (is_figure c) (has_figure text) e))
    ∙ meant-figures (c ∷ front) text (or-right (is_figure c) (has_figure text) e)

meant-scalars : (front text : List ℕ) → scalars text ≡ true → scalars (meant_from front text) ≡ true
meant-scalars front [] e = refl
meant-scalars front (c ∷ text) e =
    ap (λ b. b && scalars (meant_from (c ∷ front) text))
    ((meant-none front c text).1 (and-left (scalar c) (scalars text) e))
    ∙ meant-scalars (c ∷ front) text (and-right (scalar c) (scalars text) e)

meant-length : (front text : List ℕ) → length text ≡ length (meant_from front text)
meant-length front [] = refl
meant-length front (c ∷ text) = ap suc (meant-length (c ∷ front) text)

-- the characters of a text as it is meant
pub meant-chars : (bytes : List ℕ) → IsUtf8 bytes → chars (as_meant bytes) ≡ meant_from [] (chars bytes)
unfolding as_meant
meant-chars bytes utf8 = chars-encodes (meant_from [] (chars bytes))
    (meant-scalars [] (chars bytes) (scalars-chars bytes utf8))

pub figures-none-stay : (voice : Voice) (wanted : Wanted) (bytes : List ℕ) → IsUtf8 bytes
    → has_figure (chars bytes) ≡ false → text_in_speech voice wanted bytes ≡ bytes
unfolding text_in_speech
figures-none-stay voice wanted bytes utf8 e =
    ap (λ l. encode_utf8_all (speech_from voice wanted 0 [] l (chars bytes))) (meant-chars bytes utf8)
    ∙ ap encode_utf8_all (speech-stays voice wanted 0 [] (meant_from [] (chars bytes)) (chars bytes)
    (meant-figures [] (chars bytes) e) (meant-length [] (chars bytes)))
    ∙ encodes-chars bytes utf8
