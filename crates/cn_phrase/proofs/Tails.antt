-- What is left after a sum of money is a suffix of what is after its number.
use Rattle.std.proofs.Common.{◌≡◌, ℕ, Bool, true, false, List, [], ◌∷◌, codes, chars, Option, Some, None, IfSome, is_some, refl, sym, subst, if◌then◌else◌}
use Rattle.std.specs.Option.{option_and_then, option_map, option_or}
use Rattle.std.specs.List.{list_any}
use Rattle.cn_core.specs.FigureCharacters.{is_figure}
use Rattle.cn_find.specs.Flags.{is_one_character}
use Rattle.cn_phrase.specs.declared.money.MoneyForm.{MoneyForm}
use Rattle.cn_phrase.specs.declared.money.MoneyForm.TheVariants.{Parts, Small, Yuan, Kuai}
use Rattle.cn_phrase.specs.Money.{Digit, Tail, after_digit, after_fen, after_jiao, after_kuai, after_last, after_last_jiao, after_small_jiao, after_yuan, alone, digit_at, fen_after, fen_at, fen_digit, jiao_at, may_be_alone, may_end, open_digit, part_digit, parts, parts_at, single_digit, tail_alone, tail_at, tail_by, tail_of_digit, tail_of_yuan, whole_yuan}
use Rattle.cn_phrase.specs.Pieces.{without_blank}
use Rattle.cn_phrase.specs.Suffix.{EndsWith}
use Rattle.cn_phrase.specs.Words.{after_any, after_one, after_two}
use Rattle.cn_phrase.proofs.Suffixes.{Ends-again, Ends-any, Ends-blank, Ends-self, if-or, leaves-one, leaves-two}

-- what is left is a suffix of the text
abbrev TextIn : List ℕ → Option (List ℕ) → Type 0
TextIn text o = IfSome o (EndsWith text)

abbrev DigitIn : List ℕ → Option Digit → Type 0
DigitIn text o = IfSome o (λ d. EndsWith text d.rest)

abbrev TailIn : List ℕ → Option Tail → Type 0
TailIn text o = IfSome o (λ t. EndsWith text t.rest)

-- what is left of a suffix
text-on : (text rest : List ℕ) (o : Option (List ℕ)) → EndsWith text rest → TextIn rest o → TextIn text o
text-on text rest None ends h = tt
text-on text rest (Some end) ends h = Ends-again text rest end ends h

tail-on : (text rest : List ℕ) (o : Option Tail) → EndsWith text rest → TailIn rest o → TailIn text o
tail-on text rest None ends h = tt
tail-on text rest (Some t) ends h = Ends-again text rest t.rest ends h

tail-or : (text : List ℕ) (one other : Option Tail) → TailIn text one → TailIn text other
    → TailIn text (option_or one other)
tail-or text one other h k = if-or (λ t. EndsWith text t.rest) one other h k

-- what is read after a suffix
tail-then : (text : List ℕ) (o : Option (List ℕ)) (f : List ℕ → Option Tail) → TextIn text o
    → ((rest : List ℕ) → TailIn rest (f rest)) → TailIn text (option_and_then f o)
tail-then text None f h k = tt
tail-then text (Some rest) f h k = tail-on text rest (f rest) h (k rest)

tail-map : (text : List ℕ) (o : Option (List ℕ)) (form : MoneyForm) (jiao fen : ℕ) → TextIn text o
    → TailIn text (option_map (λ rest. parts form jiao fen rest) o)
tail-map text None form jiao fen h = tt
tail-map text (Some rest) form jiao fen h = h

digit-in : (text : List ℕ) → DigitIn text (digit_at text)
digit-in [] = tt
digit-in (c ∷ rest) = by (part_digit c) where
  by : (o : Option ℕ) → DigitIn (c ∷ rest) (option_map (λ n. record { value = n; rest = rest }) o)
  by None = tt
  by (Some n) = (c ∷ [], refl)

open-in : (text : List ℕ) → DigitIn text (open_digit text)
open-in [] = tt
open-in (c ∷ rest) = by (may_end c rest) where
  by : (b : Bool) → DigitIn (c ∷ rest) (if b then digit_at (c ∷ rest) else None)
  by true = digit-in (c ∷ rest)
  by false = tt

last-in : (refused text : List ℕ) → TextIn text (after_last refused text)
last-in refused text = by _ where
  by : (b : Bool) → TextIn text (if b then None else Some (after_any (codes "钱錢") text))
  by true = tt
  by false = Ends-any (codes "钱錢") text

fen-in : (text : List ℕ) → TextIn text (after_fen text)
fen-in text = by (after_one (codes "分") text) (leaves-one (codes "分") text) where
  by : (o : Option (List ℕ)) → TextIn text o
      → TextIn text (option_and_then (λ rest. after_last (codes "钟鐘之熟地天甜糖") rest) o)
  by None h = tt
  by (Some rest) h = text-on text rest _ h (last-in (codes "钟鐘之熟地天甜糖") rest)

fen_digit-in : (text : List ℕ) → DigitIn text (fen_digit text)
fen_digit-in text = by (digit_at text) (digit-in text) where
  more : (d : Digit) → EndsWith text d.rest → (o : Option (List ℕ)) → TextIn d.rest o
      → DigitIn text (option_map (λ rest. record { value = d.value; rest = rest }) o)
  more d ends None h = tt
  more d ends (Some rest) h = Ends-again text d.rest rest ends h

  by : (o : Option Digit) → DigitIn text o → DigitIn text (option_and_then (λ d.
      option_map (λ rest. record { value = d.value; rest = rest }) (after_fen d.rest)) o)
  by None h = tt
  by (Some d) h = more d h (after_fen d.rest) (fen-in d.rest)

fen_after-in : (form : MoneyForm) (jiao : ℕ) (text : List ℕ) → TailIn text (fen_after form jiao text)
fen_after-in form jiao text =
    by (option_or (fen_digit text) (open_digit text))
    (if-or (λ d. EndsWith text d.rest) (fen_digit text) (open_digit text) (fen_digit-in text) (open-in text))
  where
    by : (o : Option Digit) → DigitIn text o
        → TailIn text (option_map (λ d. parts form jiao d.value d.rest) o)
    by None h = tt
    by (Some d) h = h

jiao-in : (jiao : ℕ) (text : List ℕ) → TailIn text (after_jiao jiao text)
jiao-in jiao text =
    tail-or text (fen_after Parts jiao text) _ (fen_after-in Parts jiao text)
    (tail-map text (after_last_jiao text) Parts jiao 0 (last-in (codes "形星板铁鐵架尺旗洲债債恋戀区區巾毯豆线線衣地裤褲钉釘函茴楼樓亭帽梅枫楓鼎落度戏戲色球钢鋼龙龍鲨鯊羊") text))

jiao_at-in : (text : List ℕ) → TailIn text (jiao_at text)
jiao_at-in text = by (digit_at text) (digit-in text) where
  by : (o : Option Digit) → DigitIn text o → TailIn text (option_and_then (λ d.
      option_and_then (λ rest. after_jiao d.value rest) (after_one (codes "角毛") d.rest)) o)
  by None h = tt
  by (Some d) h = tail-on text d.rest _ h
      (tail-then d.rest (after_one (codes "角毛") d.rest) (λ rest. after_jiao d.value rest)
      (leaves-one (codes "角毛") d.rest) (jiao-in d.value))

fen_at-in : (text : List ℕ) → TailIn text (fen_at text)
fen_at-in text = by (fen_digit text) (fen_digit-in text) where
  by : (o : Option Digit) → DigitIn text o
      → TailIn text (option_map (λ d. parts Parts 0 d.value d.rest) o)
  by None h = tt
  by (Some d) h = h

yuan-in : (text : List ℕ) → TailIn text (after_yuan text)
yuan-in text =
    let start = after_any (codes "零〇") text in
    tail-on text start (after_yuan text) (Ends-any (codes "零〇") text)
    (tail-or start (jiao_at start) (fen_at start) (jiao_at-in start) (fen_at-in start))

kuai-in : (text : List ℕ) → TailIn text (after_kuai text)
kuai-in text = tail-or text (after_yuan text) _ (yuan-in text) (by (open_digit text) (open-in text)) where
  by : (o : Option Digit) → DigitIn text o
      → TailIn text (option_map (λ d. parts Parts d.value 0 d.rest) o)
  by None h = tt
  by (Some d) h = h

parts-in : (text : List ℕ) → TailIn text (parts_at text)
parts-in text =
    tail-or text (option_and_then (λ rest. after_yuan rest) (after_one (codes "元圆圓") text)) _
    (tail-then text (after_one (codes "元圆圓") text) (λ rest. after_yuan rest)
    (leaves-one (codes "元圆圓") text) yuan-in)
    (tail-then text (after_one (codes "块塊") text) (λ rest. after_kuai rest)
    (leaves-one (codes "块塊") text) kuai-in)

of_yuan-in : (number text : List ℕ) → TailIn text (tail_of_yuan number text)
of_yuan-in number text =
    tail-or text (option_and_then (λ t. if is_some (whole_yuan number) then Some t else None) (parts_at text))
    _ (by (parts_at text) (parts-in text))
    (tail-map text (after_two (codes "元圆圓块塊") (codes "钱錢") text) Parts 0 0
    (leaves-two (codes "元圆圓块塊") (codes "钱錢") text)) where
      chosen : (b : Bool) (t : Tail) → EndsWith text t.rest → TailIn text (if b then Some t else None)
      chosen true t h = h
      chosen false t h = tt

      by : (o : Option Tail) → TailIn text o
          → TailIn text (option_and_then (λ t. if is_some (whole_yuan number) then Some t else None) o)
      by None h = tt
      by (Some t) h = chosen (is_some (whole_yuan number)) t h

small-in : (jiao : ℕ) (text : List ℕ) → TailIn text (after_small_jiao jiao text)
small-in jiao text =
    tail-or text (fen_after Small jiao text) _ (fen_after-in Small jiao text)
    (tail-map text (after_one (codes "钱錢") text) Small jiao 0 (leaves-one (codes "钱錢") text))

after_digit-in : (n : ℕ) (text : List ℕ) → TailIn text (after_digit n text)
after_digit-in n text =
    tail-or text (option_and_then (λ rest. after_small_jiao n rest) (after_one (codes "角毛") text)) _
    (tail-then text (after_one (codes "角毛") text) (λ rest. after_small_jiao n rest)
    (leaves-one (codes "角毛") text) (small-in n))
    (tail-map text (after_two (codes "分") (codes "钱錢") text) Small 0 n
    (leaves-two (codes "分") (codes "钱錢") text))

of_digit-in : (number text : List ℕ) → TailIn text (tail_of_digit number text)
of_digit-in number text = by (single_digit number) where
  by : (o : Option ℕ) → TailIn text (option_and_then (λ n. after_digit n text) o)
  by None = tt
  by (Some n) = after_digit-in n text

alone-in : (form : MoneyForm) (text : List ℕ) → TailIn text (alone form text)
alone-in form text = by (may_be_alone text) where
  by : (b : Bool) → TailIn text (if b then Some (parts form 0 0 text) else None)
  by true = Ends-self text
  by false = tt

tail_alone-in : (number text : List ℕ) → TailIn text (tail_alone number text)
tail_alone-in number text =
    tail-or text (option_and_then (λ rest. alone Yuan rest) (after_one (codes "元圆圓") text)) _
    (tail-then text (after_one (codes "元圆圓") text) (λ rest. alone Yuan rest)
    (leaves-one (codes "元圆圓") text) (alone-in Yuan))
    (tail-then text (after_one (codes "块塊") text)
    (λ rest. if is_one_character number then None else alone Kuai rest)
    (leaves-one (codes "块塊") text) kuai) where
      by : (b : Bool) (rest : List ℕ) → TailIn rest (if b then None else alone Kuai rest)
      by true rest = tt
      by false rest = alone-in Kuai rest

      kuai : (rest : List ℕ) → TailIn rest (if is_one_character number then None else alone Kuai rest)
      kuai rest = by (is_one_character number) rest

by-in : (bytes number text : List ℕ) → TailIn text (tail_by bytes number text)
by-in bytes number text =
    tail-or text (tail_of_yuan bytes text) _ (of_yuan-in bytes text)
    (tail-or text (tail_of_digit number text) (tail_alone number text) (of_digit-in number text)
    (tail_alone-in number text))

pub tail-in : (number text : List ℕ) → IfSome (tail_at number text) (λ t. EndsWith text t.rest)
tail-in number text =
    let start = without_blank (list_any is_figure (chars number)) text in
    tail-on text start (tail_at number text) (Ends-blank (list_any is_figure (chars number)) text)
    (by-in number (chars number) start)

pub tail-ends : (number text : List ℕ) (t : Tail) → Some t ≡ tail_at number text → EndsWith text t.rest
tail-ends number text t e = subst (λ o. IfSome o (λ each. EndsWith text each.rest)) (sym e) (tail-in number text)
