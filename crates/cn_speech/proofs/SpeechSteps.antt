-- A text is spoken part by part.
use Rattle.std.proofs.Common.{◌≡◌, ℕ, Bool, true, false, ◌&&◌, if◌then◌else◌, zero, suc, ◌-◌, ◌<◌, ◌≤◌, List, [], ◌∷◌, ◌++◌, length, take, drop, reverse, chars, encode_utf8_all, IsUtf8, Option, Some, None, IfSome, refl, sym, ap, subst, ◌∙◌, arith, append_assoc, append-nil, length-append, take-append-drop}
use mathlib.Core.List.{reverse_aux}
use Rattle.std.proofs.lemmas.List.{reverse-append}
use Rattle.std.proofs.lemmas.Str.{chars-append, chars_from_encodes, encodes-append, encodes-chars, length-le-encodes}
use Rattle.cn_find.specs.declared.wanted.Wanted.{Wanted}
use Rattle.cn_find.specs.Spans.{Span, in_front, text_before}
use Rattle.cn_find.proofs.Runs.{IsEnd, IsEnd-at, front-onto, front-utf8, seam-front}
use Rattle.cn_phrase.specs.Between.{characters_before, part_between}
use Rattle.cn_phrase.specs.Suffix.{EndsWith}
use Rattle.cn_phrase.proofs.Between.{front-is}
use Rattle.cn_phrase.proofs.ItemSteps.{Leaves}
use Rattle.cn_phrase.proofs.Suffixes.{Ends-self}
use Rattle.cn_speech.specs.declared.voice.Voice.{Voice}
use Rattle.cn_speech.specs.Joined.{has_figure}
use Rattle.cn_speech.specs.Meant.{as_meant}
use Rattle.cn_speech.specs.Speech.{is_left, left_from, left_here, passed_by, rest_here, speech_from, text_here, text_in_speech}
use Rattle.cn_speech.specs.SpokenParts.{IsPartWithin, Part, part_at}
use Rattle.cn_speech.proofs.PartLeaves.{PartLeave, one-more, part-leaves}

drop-again : (n : ℕ) (text : List ℕ) → drop n (drop 1 text) ≡ drop (suc n) text
drop-again zero [] = refl
drop-again (suc n) [] = refl
drop-again n (c ∷ text) = refl

taken-again : (n : ℕ) (text gone : List ℕ)
    → reverse (take n (drop 1 text)) ++ (reverse (take 1 text) ++ gone)
    ≡ reverse (take (suc n) text) ++ gone
taken-again zero [] gone = refl
taken-again (suc n) [] gone = refl
taken-again n (c ∷ text) gone = sym (ap (λ l. l ++ gone) (reverse-append (c ∷ []) (take n text))
    ∙ append_assoc (reverse (take n text)) (c ∷ []) gone)

-- a part that was passed is the start of a text
pub taken-is : (n : ℕ) (given taken : List ℕ) → given ≡ taken ++ drop n given
    → taken ≡ take n given
taken-is n given taken e = sym (front-is given taken (drop n given) (drop n given) e refl)
    ∙ front-is given (take n given) (drop n given) (drop n given) (sym (take-append-drop n given)) refl

-- ---- Characters of a part are passed over

module _ (voice : Voice) (wanted : Wanted) where
  pass-all : (passed front text given : List ℕ)
      → speech_from voice wanted (length passed) front (passed ++ text) given
      ≡ speech_from voice wanted 0 (reverse_aux passed front) text (drop (length passed) given)
  pass-all [] front text given = refl
  pass-all (c ∷ passed) front text given = pass-all passed (c ∷ front) text (drop 1 given)
      ∙ ap (speech_from voice wanted 0 (reverse_aux passed (c ∷ front)) text)
      (drop-again (length passed) given)

  -- a part of these characters, or one character, is spoken
  speech-here : (front passed rest given : List ℕ) (c : ℕ)
      → rest_here (passed ++ rest) (part_at wanted front (c ∷ passed ++ rest)) ≡ rest
      → speech_from voice wanted 0 front (c ∷ passed ++ rest) given
      ≡ text_here voice front (c ∷ passed ++ rest) (take (suc (length passed)) given)
      (part_at wanted front (c ∷ passed ++ rest))
      ++ speech_from voice wanted 0 (reverse_aux (c ∷ passed) front) rest
      (drop (suc (length passed)) given)
  speech-here front passed rest given c e =
      let count : passed_by (passed ++ rest) (part_at wanted front (c ∷ passed ++ rest)) ≡ length passed =
      omega (arith, ap length e, length-append passed rest) in
      rw count (ap (λ l. text_here voice front (c ∷ passed ++ rest) (take (suc (length passed)) given)
      (part_at wanted front (c ∷ passed ++ rest)) ++ l)
      (pass-all passed (c ∷ front) rest (drop 1 given)
      ∙ ap (speech_from voice wanted 0 (reverse_aux passed (c ∷ front)) rest)
      (drop-again (length passed) given)))

module _ (wanted : Wanted) where
  left-pass-all : (passed front text gone given : List ℕ)
      → left_from wanted (length passed) front (passed ++ text) gone given
      ≡ left_from wanted 0 (reverse_aux passed front) text
      (reverse (take (length passed) given) ++ gone) (drop (length passed) given)
  left-pass-all [] front text gone given = refl
  left-pass-all (c ∷ passed) front text gone given =
      left-pass-all passed (c ∷ front) text (reverse (take 1 given) ++ gone) (drop 1 given)
      ∙ ap (λ l. left_from wanted 0 (reverse_aux passed (c ∷ front)) text l (drop (length passed) (drop 1 given)))
      (taken-again (length passed) given gone)
      ∙ ap (left_from wanted 0 (reverse_aux passed (c ∷ front)) text
      (reverse (take (suc (length passed)) given) ++ gone)) (drop-again (length passed) given)

  left-in-part : (front passed rest gone given : List ℕ) (c : ℕ)
      → rest_here (passed ++ rest) (part_at wanted front (c ∷ passed ++ rest)) ≡ rest
      → left_from wanted 0 front (c ∷ passed ++ rest) gone given
      ≡ left_here gone given (drop (suc (length passed)) given)
      (part_at wanted front (c ∷ passed ++ rest))
      ++ left_from wanted 0 (reverse_aux (c ∷ passed) front) rest
      (reverse (take (suc (length passed)) given) ++ gone) (drop (suc (length passed)) given)
  left-in-part front passed rest gone given c e =
      let count : passed_by (passed ++ rest) (part_at wanted front (c ∷ passed ++ rest)) ≡ length passed =
      omega (arith, ap length e, length-append passed rest) in
      rw count (ap (λ l. left_here gone given (drop (suc (length passed)) given)
      (part_at wanted front (c ∷ passed ++ rest)) ++ l)
      (left-pass-all passed (c ∷ front) rest (reverse (take 1 given) ++ gone) (drop 1 given)
      ∙ ap (λ l. left_from wanted 0 (reverse_aux passed (c ∷ front)) rest l (drop (length passed) (drop 1 given)))
      (taken-again (length passed) given gone)
      ∙ ap (left_from wanted 0 (reverse_aux passed (c ∷ front)) rest
      (reverse (take (suc (length passed)) given) ++ gone)) (drop-again (length passed) given)))

-- ---- Bytes

-- characters of a text were passed
pub record PassedAll (whole before after passed : List ℕ) : Type 0 where
  pub ends : IsEnd whole after
  pub front : reverse_aux passed (in_front before) ≡ in_front (text_before whole after)

pub PassedAll-of : (whole before ahead after passed : List ℕ) → before ++ ahead ≡ whole
    → IsUtf8 before → IsUtf8 ahead → IsUtf8 after → chars ahead ≡ passed ++ chars after
    → PassedAll whole before after passed
PassedAll-of whole before ahead after passed cut before_utf8 utf8 ended parts = record {
  ends = IsEnd-at whole (before ++ encode_utf8_all passed) after at;
  front = front-onto (in_front before) passed ∙ sym (ap in_front (seam-front whole _ after at)
      ∙ ap reverse (chars-append before (encode_utf8_all passed) before_utf8)
      ∙ reverse-append (chars before) (chars (encode_utf8_all passed))
      ∙ ap (λ l. reverse l ++ in_front before) same);
} where
  bytes : ahead ≡ encode_utf8_all passed ++ after
  bytes = sym (encodes-chars ahead utf8) ∙ ap encode_utf8_all parts
      ∙ encodes-append passed (chars after)
      ∙ ap (λ l. encode_utf8_all passed ++ l) (encodes-chars after ended)

  at : whole ≡ (before ++ encode_utf8_all passed) ++ after
  at = sym cut ∙ ap (λ l. before ++ l) bytes
      ∙ sym (append_assoc before (encode_utf8_all passed) after)

  cut_is : text_before ahead after ≡ encode_utf8_all passed
  cut_is = seam-front ahead (encode_utf8_all passed) after bytes

  same : chars (encode_utf8_all passed) ≡ passed
  same = ap chars (sym cut_is) ∙ sym (chars_from_encodes passed (text_before ahead after)
      (front-utf8 ahead after (IsEnd-at ahead (encode_utf8_all passed) after bytes) utf8 ended)
      (sym cut_is))

-- ---- A step

-- what is after a part, or after one character, is a shorter suffix
pub rest-leaves : (wanted : Wanted) (front ahead : List ℕ) (c : ℕ)
    → Leaves (c ∷ ahead) (rest_here ahead (part_at wanted front (c ∷ ahead)))
rest-leaves wanted front ahead c =
    by (part_at wanted front (c ∷ ahead)) (part-leaves wanted front (c ∷ ahead)) where
      by : (o : Option Part) → PartLeave (c ∷ ahead) o → Leaves (c ∷ ahead) (rest_here ahead o)
      by None h = one-more c ahead ahead (Ends-self ahead)
      by (Some part) h = h.leaves

-- a part of a text, which may be one character, is at the start of it
pub rest-of : (wanted : Wanted) (front text behind rest : List ℕ) (c : ℕ) (part : Option Part)
    → text ≡ c ∷ behind → part ≡ part_at wanted front text → rest ≡ rest_here behind part
    → Leaves text rest
rest-of wanted front text behind rest c part parts is e =
    subst (λ l. Leaves l rest) (sym parts)
    (subst (Leaves (c ∷ behind)) (sym (e ∙ ap (rest_here behind) (is ∙ ap (part_at wanted front) parts)))
    (rest-leaves wanted front behind c))

-- of such a suffix there are fewer bytes
pub leaves-bytes : (ahead rest : List ℕ) → IsUtf8 ahead → IsUtf8 rest
    → Leaves (chars ahead) (chars rest) → length rest < length ahead
leaves-bytes ahead rest utf8 ended h = omega (
  arith,
  ap length bytes,
  length-append (encode_utf8_all h.0.0) rest,
  length-le-encodes h.0.0,
  ap length h.0.1,
  length-append h.0.0 (chars rest),
  h.1,
) where
  bytes : ahead ≡ encode_utf8_all h.0.0 ++ rest
  bytes = sym (encodes-chars ahead utf8) ∙ ap encode_utf8_all h.0.1
      ∙ encodes-append h.0.0 (chars rest)
      ∙ ap (λ l. encode_utf8_all h.0.0 ++ l) (encodes-chars rest ended)

pub within-of : (wanted : Wanted) (front text : List ℕ) (part : Option Part)
    → part ≡ part_at wanted front text → IfSome {T = Part} part (IsPartWithin text)
within-of wanted front text part is =
    subst (λ o. IfSome {T = Part} o (IsPartWithin text)) (sym is)
    (by (part_at wanted front text) (part-leaves wanted front text)) where
      by : (o : Option Part) → PartLeave text o → IfSome {T = Part} o (IsPartWithin text)
      by None h = tt
      by (Some each) h = h.within

-- the characters of a part, of which there is at least one
record PassedBy (text behind rest : List ℕ) (c : ℕ) : Type 0 where
  pub passed : List ℕ
  pub parts : behind ≡ passed ++ rest
  pub count : length text - length rest ≡ suc (length passed)

PassedBy-of : (text behind rest : List ℕ) (c : ℕ) → text ≡ c ∷ behind → Leaves text rest
    → PassedBy text behind rest c
PassedBy-of text behind rest c parts h = by h.0.0 h.0.1 where
  by : (f : List ℕ) → text ≡ f ++ rest → PassedBy text behind rest c
  by [] e = absurd (omega (arith, ap length e, h.1))
  by (d ∷ passed) e = record {
    passed = passed;
    parts = cc;
    count = omega (arith, ap length e, length-append passed rest);
  }

-- a part of a text, or one character, is spoken, and the text `rest` is still to be spoken; of the given
-- text `taken` is spoken, and `next` is left
pub record SpeechStep (voice : Voice) (wanted : Wanted) (whole ahead given rest next taken : List ℕ)
    (part : Option Part) : Type 0 where
  pub ends : IsEnd whole rest
  pub same : speech_from voice wanted 0 (in_front (text_before whole ahead)) (chars ahead) (chars given)
      ≡ text_here voice (in_front (text_before whole ahead)) (chars ahead) (chars taken) part
      ++ speech_from voice wanted 0 (in_front (text_before whole rest)) (chars rest) (chars next)

-- the part is left, or not, and the text `rest` is still to be searched
pub record LeftStep (wanted : Wanted) (whole ahead text given rest next : List ℕ) (part : Option Part)
    : Type 0 where
  pub ends : IsEnd whole rest
  pub given_ends : IsEnd text next
  pub same : left_from wanted 0 (in_front (text_before whole ahead)) (chars ahead)
      (in_front (text_before text given)) (chars given)
      ≡ left_here (in_front (text_before text given)) (chars given) (chars next) part
      ++ left_from wanted 0 (in_front (text_before whole rest)) (chars rest)
      (in_front (text_before text next)) (chars next)

module _ (wanted : Wanted) (whole ahead given behind rest next taken : List ℕ) (c : ℕ)
    (part : Option Part) (ends : IsEnd whole ahead) (whole_utf8 : IsUtf8 whole) (utf8 : IsUtf8 ahead)
    (rest_utf8 : IsUtf8 rest) (taken_utf8 : IsUtf8 taken) (parts : chars ahead ≡ c ∷ chars behind)
    (is : part ≡ part_at wanted (in_front (text_before whole ahead)) (chars ahead))
    (at : chars rest ≡ rest_here (chars behind) part)
    (dropped : chars next ≡ drop (length (chars ahead) - length (chars rest)) (chars given))
    (cut : given ≡ taken ++ next) where
  abbrev front : List ℕ
  front = in_front (text_before whole ahead)

  by : PassedBy (chars ahead) (chars behind) (chars rest) c
  by = PassedBy-of (chars ahead) (chars behind) (chars rest) c parts
      (rest-of wanted front (chars ahead) (chars behind) (chars rest) c part parts is at)

  abbrev count : ℕ
  count = suc (length by.passed)

  next_is : chars next ≡ drop count (chars given)
  next_is = dropped ∙ ap (λ n. drop n (chars given)) by.count

  taken_is : chars taken ≡ take count (chars given)
  taken_is = taken-is count (chars given) (chars taken) (ap chars cut
      ∙ chars-append taken next taken_utf8 ∙ ap (λ l. chars taken ++ l) next_is)

  all : PassedAll whole (text_before whole ahead) rest (c ∷ by.passed)
  all = PassedAll-of whole (text_before whole ahead) ahead rest (c ∷ by.passed) ends
      (front-utf8 whole ahead ends whole_utf8 utf8) utf8 rest_utf8
      (parts ∙ ap (λ l. c ∷ l) by.parts)

  whole_is : chars ahead ≡ c ∷ by.passed ++ chars rest
  whole_is = parts ∙ ap (λ l. c ∷ l) by.parts

  part_is : part_at wanted front (c ∷ by.passed ++ chars rest) ≡ part
  part_is = sym (is ∙ ap (part_at wanted front) whole_is)

  rest_is : rest_here (by.passed ++ chars rest)
      (part_at wanted front (c ∷ by.passed ++ chars rest)) ≡ chars rest
  rest_is = ap (rest_here (by.passed ++ chars rest)) part_is
      ∙ ap (λ l. rest_here l part) (sym by.parts) ∙ sym at

  -- of the text before the part and after it, and of the text that is left
  pub LeftStep-of : (text : List ℕ) → IsEnd text given → IsUtf8 text → IsUtf8 given → IsUtf8 next
      → LeftStep wanted whole ahead text given rest next part
  LeftStep-of text given_ends text_utf8 given_utf8 next_utf8 = record {
    ends = all.ends;
    given_ends = passed.ends;
    same = ap (λ l. left_from wanted 0 front l gone (chars given)) whole_is
        ∙ left-in-part wanted front by.passed (chars rest) gone (chars given) c rest_is
        ∙ ap (λ l. left_here gone (chars given) l (part_at wanted front (c ∷ by.passed ++ chars rest)) ++ after)
        (sym next_is)
        ∙ ap (λ o. left_here gone (chars given) (chars next) o ++ after) part_is
        ∙ ap (λ l. left_here gone (chars given) (chars next) part ++ l) after_is;
  } where
    gone : List ℕ
    gone = in_front (text_before text given)

    passed : PassedAll text (text_before text given) next (chars taken)
    passed = PassedAll-of text (text_before text given) given next (chars taken) given_ends
        (front-utf8 text given given_ends text_utf8 given_utf8) given_utf8 next_utf8
        (ap chars cut ∙ chars-append taken next taken_utf8)

    after : List Span
    after = left_from wanted 0 (reverse_aux (c ∷ by.passed) front) (chars rest)
        (reverse (take count (chars given)) ++ gone) (drop count (chars given))

    gone_is : reverse (take count (chars given)) ++ gone ≡ in_front (text_before text next)
    gone_is = ap (λ l. reverse l ++ gone) (sym taken_is) ∙ sym (front-onto gone (chars taken)) ∙ passed.front

    after_is : after ≡ left_from wanted 0 (in_front (text_before whole rest)) (chars rest)
        (in_front (text_before text next)) (chars next)
    after_is = ap (λ l. left_from wanted 0 l (chars rest) (reverse (take count (chars given)) ++ gone)
        (drop count (chars given))) all.front
        ∙ ap (λ l. left_from wanted 0 (in_front (text_before whole rest)) (chars rest) l (drop count (chars given)))
        gone_is
        ∙ ap (left_from wanted 0 (in_front (text_before whole rest)) (chars rest)
        (in_front (text_before text next))) (sym next_is)

  pub SpeechStep-of : (voice : Voice)
      → SpeechStep voice wanted whole ahead given rest next taken part
  SpeechStep-of voice = record {
    ends = all.ends;
    same = ap (λ l. speech_from voice wanted 0 front l (chars given)) whole_is
        ∙ speech-here voice wanted front by.passed (chars rest) (chars given) c rest_is
        ∙ ap (λ l. text_here voice front l (take count (chars given))
        (part_at wanted front (c ∷ by.passed ++ chars rest)) ++ after) (sym whole_is)
        ∙ ap (λ l. text_here voice front (chars ahead) l
        (part_at wanted front (c ∷ by.passed ++ chars rest)) ++ after) (sym taken_is)
        ∙ ap (λ o. text_here voice front (chars ahead) (chars taken) o ++ after) part_is
        ∙ ap (λ l. text_here voice front (chars ahead) (chars taken) part ++ l) after_is;
  } where
    after : List ℕ
    after = speech_from voice wanted 0 (reverse_aux (c ∷ by.passed) front) (chars rest)
        (drop count (chars given))

    after_is : after ≡ speech_from voice wanted 0 (in_front (text_before whole rest)) (chars rest) (chars next)
    after_is = ap (λ l. speech_from voice wanted 0 l (chars rest) (drop count (chars given))) all.front
        ∙ ap (speech_from voice wanted 0 (in_front (text_before whole rest)) (chars rest)) (sym next_is)

-- all of a text is spoken
pub all-spoken : {S : Type 0} (took : S → S → List ℕ → Type 0) (voice : Voice) (wanted : Wanted)
    (old now : S) (text meant : List ℕ) → meant ≡ as_meant text
    → took old now (encode_utf8_all (speech_from voice wanted 0 [] (chars meant) (chars text)))
    → took old now (text_in_speech voice wanted text)
unfolding text_in_speech
all-spoken took voice wanted old now text meant e h = subst (λ l. took old now
    (encode_utf8_all (speech_from voice wanted 0 [] (chars l) (chars text)))) e h

-- ---- A part that is left

module _ (gone given rest : List ℕ) (part : Option Part) where
  pub left-spoken : is_left part ≡ false → left_here gone given rest part ≡ []
  left-spoken e = rw e refl

  pub left-plain : (text : List ℕ) → characters_before given rest ≡ text → has_figure text ≡ false
      → left_here gone given rest part ≡ []
  left-plain text e none =
      by (is_left part) (has_figure (characters_before given rest)) (ap has_figure e ∙ none) where
        by : (b k : Bool) → k ≡ false
            → (if b && k then part_between gone given rest ∷ [] else []) ≡ []
        by true false h = refl
        by true true h = cc
        by false k h = refl

  pub left-span : (text : List ℕ) (span : Span) → is_left part ≡ true
      → characters_before given rest ≡ text → has_figure text ≡ true
      → span ≡ part_between gone given rest → left_here gone given rest part ≡ span ∷ []
  left-span text span e same some at =
      by (is_left part) (has_figure (characters_before given rest)) e (ap has_figure same ∙ some)
      ∙ ap (λ s. s ∷ []) (sym at) where
        by : (b k : Bool) → b ≡ true → k ≡ true
            → (if b && k then part_between gone given rest ∷ [] else [])
            ≡ part_between gone given rest ∷ []
        by true true h j = refl
        by true false h j = cc
        by false k h j = cc
