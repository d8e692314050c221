-- What is written for lines, one after the other.
use Rattle.std.proofs.Common.{◌≡◌, ◌≢◌, ℕ, ◌+◌, Bool, true, false, List, [], ◌∷◌, ◌++◌, codes, decimal, IsUtf8, Option, Some, None, Result, Ok, Err, refl, sym, arith, append_assoc, append-nil, subst, ap, ◌∙◌}
use Rattle.std.proofs.lemmas.Str.{is_utf8-from_IsUtf8, IsUtf8-from_is_utf8}
use Rattle.std.proofs.KnownBytes.{Appends-nil, Appends-trans, Appends-kept}
use Rattle.std.specs.Io.BufRead.{drop_through, strip_last}
use Rattle.std.specs.Io.KnownBytes.{Appends, Keeps}
use Rattle.std.specs.Prelude.{IfSome, IfErr}
use Rattle.std.specs.Str.{is_utf8}
use Rattle.numbers.specs.declared.fault.RunError.{RunError}
use Rattle.numbers.specs.declared.fault.RunError.TheVariants.{Read, Write, Memory}
use Rattle.numbers.specs.declared.options.Search.{Search}
use Rattle.numbers.specs.Answers.{AnswersFirst, AnswersLine, AnswersLines, AreFirstLines, AreFound, found_spans}
use Rattle.numbers.specs.Leaves.{Leaves, ReadWithinLine, Wrote, WroteBeginning}
use Rattle.numbers.specs.Private.{TakesLine, Replies}

pub AnswersLine-text : (search : Search) (line : ℕ) (bytes written : List ℕ) → IsUtf8 bytes
    → AreFound search line (found_spans search bytes) written
    → AnswersLine search line bytes written
unfolding AnswersLine
AnswersLine-text search line bytes written ok found = rw (is_utf8-from_IsUtf8 bytes ok) found

pub AnswersLine-none : (search : Search) (line : ℕ) (bytes : List ℕ) → (IsUtf8 bytes → ⊥)
    → AnswersLine search line bytes (decimal line ++ codes ":1 bad line\n")
unfolding AnswersLine
AnswersLine-none search line bytes none = by (is_utf8 bytes) refl where
  by : (b : Bool) → is_utf8 bytes ≡ b
      → AnswersLine search line bytes (decimal line ++ codes ":1 bad line\n")
  by true e = absurd (none (IsUtf8-from_is_utf8 bytes e))
  by false e = rw e refl

-- the lines before these were answered, and what is written for the next ones follows their answers
pub record Answered (search : Search) (line : ℕ) (input : List ℕ) (left old now : Option (List ℕ))
    : Type 0 where
  pub rest : List ℕ
  pub is_left : left ≡ Some rest
  pub written : List ℕ
  pub appends : Appends old now written
  pub goes_on : (lines : List (List ℕ)) (behind more : List ℕ)
      → AreFirstLines lines rest behind → AnswersLines search line lines more
      → AnswersFirst search input behind (written ++ more)

pub Answered-none : (search : Search) (given old : Option (List ℕ))
    → IfSome given (λ input. Answered search 1 input given old old)
Answered-none search None old = tt
Answered-none search (Some input) old = record {
  rest = input;
  is_left = refl;
  written = [];
  appends = Appends-nil _;
  goes_on = λ lines behind more are answers. (lines, are, answers);
}

-- one line was taken from what was left, or there was none
abbrev pub Takes : Bool → Option (List ℕ) → Option (List ℕ) → List ℕ → Type 0
Takes more left behind bytes = IfSome left (λ rest. TakesLine more rest behind bytes)

-- at most one line was read
abbrev pub ReadWithin : Option (List ℕ) → Option (List ℕ) → Type 0
ReadWithin left behind = IfSome left (λ rest. ReadWithinLine rest behind)

-- the whole is a prefix too
none_unwritten : (search : Search) (input rest : List ℕ) (old now : Option (List ℕ))
    → Wrote search input rest old now → WroteBeginning search input rest old now
none_unwritten search input rest old now w =
    (w.0, [], subst (AnswersFirst search input rest) (sym (append-nil w.0)) w.1, w.2)

module _ {search : Search} {line : ℕ} {input : List ℕ} {left old now : Option (List ℕ)}
    (a : Answered search line input left old now) where
  -- what was written stays
  pub Answered-kept : (kept : Option (List ℕ)) → Keeps now kept
      → Answered search line input left old kept
  Answered-kept kept same = record {
    rest = a.rest;
    is_left = a.is_left;
    written = a.written;
    appends = Appends-kept _ _ _ _ a.appends same;
    goes_on = a.goes_on;
  }

  -- one more line is answered
  pub Answered-more : (x : Unit {0}) (behind new : Option (List ℕ)) (bytes text : List ℕ)
      → Takes true left behind bytes → text ≡ strip_last 10 bytes
      → Replies search line text now new (Ok x)
      → Answered search (line + 1) input behind old new
  Answered-more x behind new bytes text takes is reply =
      let t : TakesLine true a.rest behind bytes =
      subst (λ l. Takes true l behind bytes) a.is_left takes in
      record {
        rest = drop_through 10 a.rest;
        is_left = t.2;
        written = a.written ++ reply.0;
        appends = Appends-trans _ _ _ _ _ a.appends reply.2;
        goes_on = λ lines end more are answers. subst (AnswersFirst search input end)
            (sym (append_assoc a.written reply.0 more))
            (a.goes_on (text ∷ lines) end (reply.0 ++ more)
            (t.0, is ∙ ap (strip_last 10) t.1, are)
            (reply.0, more, reply.1, answers, refl));
      }

  -- everything that was read is answered
  Answered-whole : Wrote search input a.rest old now
  Answered-whole = (
    a.written,
    subst (AnswersFirst search input a.rest) (append-nil a.written)
        (a.goes_on [] a.rest [] refl refl),
    a.appends,
  )

  -- the search ends here because a write fails
  pub Leaves-unsent : (e : RunError) → e ≡ Write
      → Leaves {T = Unit {0}} search input left old now (Err e)
  Leaves-unsent e is = rw is (a.rest, a.is_left, none_unwritten _ _ _ _ _ Answered-whole)

  -- a read fails or memory runs out, and at most one line was read since
  pub Leaves-within : (e : RunError) (behind : Option (List ℕ)) → ReadWithin left behind
      → e ≢ Write → Leaves {T = Unit {0}} search input behind old now (Err e)
  Leaves-within e behind within other = by e other where
    w : ReadWithinLine a.rest behind
    w = subst (λ l. ReadWithin l behind) a.is_left within

    by : (e : RunError) → e ≢ Write → Leaves {T = Unit {0}} search input behind old now (Err e)
    by Read other = (a.rest, w, Answered-whole)
    by Write other = absurd (other refl)
    by Memory other = (a.rest, w, Answered-whole)

  -- nothing was read since
  pub Leaves-at : Leaves {T = Unit {0}} search input left old now (Err Read)
  Leaves-at = rw a.is_left (a.rest, ([], λ k d low e. omega (arith, low), refl), Answered-whole)

  -- there are no more lines
  pub Leaves-ended : (r : Result (Unit {0}) RunError) (behind : Option (List ℕ))
      → Takes false left behind [] → IfErr r (λ e. e ≡ Write)
      → Leaves search input behind old now r
  Leaves-ended r behind takes fails = by r fails where
    t : TakesLine false a.rest behind []
    t = subst (λ l. Takes false l behind []) a.is_left takes

    whole : Wrote search input [] old now
    whole = subst (λ rest. Wrote search input rest old now) t.0 Answered-whole

    by : (r : Result (Unit {0}) RunError) → IfErr r (λ e. e ≡ Write)
        → Leaves search input behind old now r
    by (Ok x) fails = (t.1, whole)
    by (Err e) fails = rw fails ([], t.1, none_unwritten _ _ _ _ _ whole)

-- a line was read, and is not answered as a whole
pub Leaves-line : {search : Search} {line : ℕ} {input : List ℕ} {left old now : Option (List ℕ)}
    (a : Answered search line input left old now) (e : RunError)
    (behind new : Option (List ℕ)) (bytes text : List ℕ) → Takes true left behind bytes
    → ReadWithin left behind → text ≡ strip_last 10 bytes
    → Replies {T = Unit {0}} search line text now new (Err e)
    → Leaves {T = Unit {0}} search input behind old new (Err e)
Leaves-line a Read behind new bytes text takes within is reply = absurd reply
Leaves-line a Memory behind new bytes text takes within is reply =
    Leaves-within (Answered-kept a new reply) Memory behind within (λ e. cc)
Leaves-line {search} {input = input} a Write behind new bytes text takes within is reply =
    let t : TakesLine true a.rest behind bytes =
    subst (λ l. Takes true l behind bytes) a.is_left takes in
    let answer = reply.0 ++ reply.1 in (
      drop_through 10 a.rest,
      t.2,
      (
        a.written ++ reply.0,
        reply.1,
        subst (AnswersFirst search input (drop_through 10 a.rest))
            (sym (append_assoc a.written reply.0 reply.1))
            (a.goes_on (text ∷ []) (drop_through 10 a.rest) answer
            (t.0, is ∙ ap (strip_last 10) t.1, refl)
            (answer, [], reply.2, refl, sym (append-nil answer))),
        Appends-trans _ _ _ _ _ a.appends reply.3,
      ),
    )
