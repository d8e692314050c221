-- The state of a run: what it has written and what it keeps, for the bytes that it has read so far.
use Rattle.std.proofs.Common.{◌≡◌, ◌++◌, ◌+◌, ◌<◌, ℕ, false, Result, Ok, Err, List, [], ◌∷◌, length, take, refl, sym, ap, ◌∙◌, subst, append_assoc, append-nil, take-append-drop, drop, length-append, inl, inr, arith}
use Rattle.std.specs.Io.KnownBytes.{Keeps, Consumes, IsAtEnd}
use Rattle.std.proofs.KnownBytes.{Appends-kept, Appends-nil, Keeps-refl, Consumes-whole}
use Rattle.std.proofs.Math.Seq.{take-append-add}
use Rattle.std.specs.Prelude.{OnErr, OnOk, IfSome}
use Rattle.cn_lines.specs.Lines.{HasNoFeed, ended, unended, lines, last_line}
use Rattle.cn_lines.specs.Answer.{Answers, AreReplies}
use Rattle.numeral.specs.Devices.{SourceState, SinkState}
use Rattle.numeral.specs.declared.fault.RunError.{RunError}
use Rattle.numeral.specs.declared.fault.RunError.TheVariants.{Read, Write, Memory}
use Rattle.numeral.specs.Leaves.{Wrote, WroteBeginning, WroteFirst, Leaves, Runs}
use Rattle.numeral.specs.Steps.{Puts, Replies, AnswersEnded}
use Rattle.numeral.proofs.Cut.{ended-line, unended-line, ended-none, unended-none, ended-append, unended-append, lines-append, lines-some, HasNoFeed-unended, HasNoFeed-append}
use Rattle.numeral.proofs.Replying.{Wrote-none, Wrote-append, WroteBeginning-after, WroteBeginning-before}

-- an answer and its line feed were written, or a prefix of them
pub Replies-put : (T U : Type 0) (old new : SinkState) (line answer : List ℕ)
    (r : Result T RunError) → Answers line answer
    → Puts old new (answer ++ 10 ∷ []) r → Replies old new (line ∷ []) r
Replies-put T U old new line answer (Ok x) a p =
    ((answer ++ 10 ∷ [], (answer, [], a, refl, refl), p.0), p.1)
Replies-put T U old new line answer (Err Read) a p = absurd p
Replies-put T U old new line answer (Err Write) a p =
    ((p.0, p.1, (answer, [], a, refl, sym p.2), p.3), p.4)
Replies-put T U old new line answer (Err Memory) a p = absurd p

pub last_line-some : (kept : List ℕ) → 0 < length kept → last_line kept ≡ kept ∷ []
last_line-some [] h = absurd (omega arith)
last_line-some (byte ∷ kept) h = refl

-- the kept line is answered
pub Replies_last : {T : Type 0} (old new : SinkState) (kept line : List ℕ) (r : Result T RunError)
    → 0 < length kept → line ≡ kept
    → Replies old new (line ∷ []) r → Replies old new (last_line kept) r
Replies_last old new kept line r some is replies =
    subst (λ lines. Replies old new lines r) (ap (λ l. l ∷ []) is ∙ sym (last_line-some kept some))
    replies

-- after the bytes that were read, each line that ended is answered, and the rest is kept
pub record State (old now : SinkState) (got kept : List ℕ) : Type 0 where
  pub written : Wrote old now (ended got)
  pub rest : kept ≡ unended got

-- more bytes are read, and their lines are answered
pub State-more : (old now new : SinkState) (got kept more kept' : List ℕ) → State old now got kept
    → Wrote now new (ended (kept ++ more)) → kept' ≡ unended (kept ++ more)
    → State old new (got ++ more) kept'
State-more old now new got kept more kept' s w r =
    let P : List ℕ → Type 0 = λ k. Wrote now new (ended (k ++ more)) in
    let w' : Wrote now new (ended (unended got ++ more)) = subst P s.rest w in
    record {
      written = subst (Wrote old new) (sym (ended-append got more))
          (Wrote-append old now new _ _ s.written w');
      rest = r ∙ ap (λ k. unended (k ++ more)) s.rest ∙ sym (unended-append got more);
    }

-- a flush keeps the bytes that were written
pub State-flushed : (old now new : SinkState) (got kept : List ℕ) → State old now got kept
    → Keeps now.contents new.contents → State old new got kept
State-flushed old now new got kept s k = record {
  written = (
    s.written.0,
    s.written.1,
    Appends-kept old.contents now.contents new.contents s.written.0 s.written.2 k,
  );
  rest = s.rest;
}

-- a write of the answers to more bytes fails
pub State-write : (old now new : SinkState) (got kept more : List ℕ) → State old now got kept
    → WroteBeginning now new (ended (kept ++ more)) → WroteBeginning old new (ended (got ++ more))
State-write old now new got kept more s w =
    let P : List ℕ → Type 0 = λ k. WroteBeginning now new (ended (k ++ more)) in
    let w' : WroteBeginning now new (ended (unended got ++ more)) = subst P s.rest w in
    subst (WroteBeginning old new) (sym (ended-append got more))
    (WroteBeginning-after old now new _ _ s.written w')

-- the memory for a line of more bytes cannot be allocated
pub State-memory : (old now new : SinkState) (got kept more : List ℕ) → State old now got kept
    → WroteFirst now new (kept ++ more) → WroteFirst old new (got ++ more)
State-memory old now new got kept more s w =
    let P : List ℕ → Type 0 = λ k. WroteFirst now new (k ++ more) in
    let w' : WroteFirst now new (unended got ++ more) = subst P s.rest w in
    let before = ended got in
    let after = lines (unended got ++ more) in
    let e : lines (got ++ more) ≡ before ++ after = lines-append got more in
    let n : length (lines (got ++ more)) ≡ length before + length after =
    ap length e ∙ length-append before after in
    let t : take (length before + w'.0) (lines (got ++ more)) ≡ before ++ take w'.0 after =
    ap (take (length before + w'.0)) e ∙ take-append-add before after w'.0 in (
      length before + w'.0,
      omega (arith, n, w'.1),
      subst (Wrote old new) (sym t) (Wrote-append old now new _ _ s.written w'.2),
    )

-- the memory for the first line cannot be allocated
pub WroteFirst-none : (now new : SinkState) (bytes : List ℕ) → 0 < length bytes
    → Keeps now.contents new.contents → WroteFirst now new bytes
WroteFirst-none now new bytes h k = (
  0,
  lines-some bytes h,
  ([], refl, Appends-kept now.contents now.contents new.contents [] (Appends-nil now.contents) k),
)

pub State-no_feed : (old now : SinkState) (got kept : List ℕ) → State old now got kept
    → HasNoFeed kept
State-no_feed old now got kept s = subst HasNoFeed (sym s.rest) (HasNoFeed-unended got)

-- a whole line is read
ended-whole : (kept line after : List ℕ) → HasNoFeed kept → HasNoFeed line
    → ended (kept ++ (line ++ 10 ∷ after)) ≡ (kept ++ line) ∷ ended after
ended-whole kept line after p q =
    ap ended (sym (append_assoc kept line (10 ∷ after)))
    ∙ ended-line (kept ++ line) after (HasNoFeed-append kept line p q)

unended-whole : (kept line after : List ℕ) → HasNoFeed kept → HasNoFeed line
    → unended (kept ++ (line ++ 10 ∷ after)) ≡ unended after
unended-whole kept line after p q =
    ap unended (sym (append_assoc kept line (10 ∷ after)))
    ∙ unended-line (kept ++ line) after (HasNoFeed-append kept line p q)

unended-nil : unended [] ≡ []
unfolding unended
unended-nil = refl

pub State-line : (old now new : SinkState) (got kept line : List ℕ) → State old now got kept
    → HasNoFeed line
    → Wrote now new ((kept ++ line) ∷ []) → State old new (got ++ (line ++ 10 ∷ [])) []
State-line old now new got kept line s h w =
    let n = State-no_feed old now got kept s in
    let e : ended (kept ++ (line ++ 10 ∷ [])) ≡ (kept ++ line) ∷ [] =
    ended-whole kept line [] n h ∙ ap (λ l. (kept ++ line) ∷ l) (ended-none [] tt) in
    State-more old now new got kept (line ++ 10 ∷ []) [] s (subst (Wrote now new) (sym e) w)
    (sym (unended-whole kept line [] n h ∙ unended-nil))

-- a piece without a line feed is read
pub State-piece : (old now : SinkState) (got kept piece : List ℕ) → State old now got kept
    → HasNoFeed piece → State old now (got ++ piece) (kept ++ piece)
State-piece old now got kept piece s h =
    let n = HasNoFeed-append kept piece (State-no_feed old now got kept s) h in
    State-more old now now got kept piece (kept ++ piece) s
    (subst (Wrote now now) (sym (ended-none (kept ++ piece) n))
    (Wrote-none now)) (sym (unended-none (kept ++ piece) n))

length-line : (line after : List ℕ) → 0 < length (line ++ 10 ∷ after)
length-line line after = omega (arith, length-append line (10 ∷ after))

length-kept : (kept more : List ℕ) → 0 < length more → 0 < length (kept ++ more)
length-kept kept more h = omega (arith, length-append kept more)

-- answering a whole line fails
AnswersEnded-got : (T U : Type 0) (old now new : SinkState) (got kept line after keeps : List ℕ)
    (e : RunError) → State old now got kept → HasNoFeed line
    → Replies {T = T} now new ((kept ++ line) ∷ []) (Err e)
    → AnswersEnded {T = U} old new (got ++ (line ++ 10 ∷ after)) keeps (Err e)
AnswersEnded-got T U old now new got kept line after keeps Read s h w = absurd w
AnswersEnded-got T U old now new got kept line after keeps Write s h w =
    let n = State-no_feed old now got kept s in
    let e : ended (kept ++ (line ++ 10 ∷ after)) ≡ ((kept ++ line) ∷ []) ++ ended after =
    ended-whole kept line after n h in (
      State-write old now new got kept (line ++ 10 ∷ after) s
          (subst (WroteBeginning now new) (sym e)
          (WroteBeginning-before now new ((kept ++ line) ∷ []) (ended after) w.0)),
      w.1,
    )
AnswersEnded-got T U old now new got kept line after keeps Memory s h w = (
  State-memory old now new got kept (line ++ 10 ∷ after) s
      (WroteFirst-none now new (kept ++ (line ++ 10 ∷ after))
      (length-kept kept (line ++ 10 ∷ after) (length-line line after)) w.0),
  w.1,
)

-- the memory for a piece without a line feed cannot be allocated
AnswersEnded-got_piece : (U : Type 0) (old now : SinkState) (got kept piece keeps : List ℕ)
    → State old now got kept → 0 < length piece
    → now.failed ≡ false → AnswersEnded {T = U} old now (got ++ piece) keeps (Err Memory)
AnswersEnded-got_piece U old now got kept piece keeps s h f = (
  State-memory old now now got kept piece s
      (WroteFirst-none now now (kept ++ piece) (length-kept kept piece h)
      (Keeps-refl now.contents)),
  f,
)

-- more bytes are read, and answering one of their lines fails
pub Leaves-fed : (T U : Type 0) (left : SourceState) (old now new : SinkState)
    (got kept more keeps : List ℕ) (e : RunError) → State old now got kept
    → left.failed ≡ false → AnswersEnded {T = T} now new (kept ++ more) keeps (Err e)
    → Leaves {T = U} left old new (got ++ more) (Err e)
Leaves-fed T U left old now new got kept more keeps Read s r w = absurd w
Leaves-fed T U left old now new got kept more keeps Write s r w =
    (inl (State-write old now new got kept more s w.0), r, w.1)
Leaves-fed T U left old now new got kept more keeps Memory s r w =
    (State-memory old now new got kept more s w.0, r, w.1)

pub State-start : (now : SinkState) (kept : List ℕ) → HasNoFeed kept → State now now kept kept
State-start now kept h = record {
  written = subst (Wrote now now) (sym (ended-none kept h)) (Wrote-none now);
  rest = sym (unended-none kept h);
}

-- the input has ended, and the rest that is kept is answered if it is a line
lines-is : (got kept : List ℕ) → kept ≡ unended got → lines got ≡ ended got ++ last_line kept
unfolding lines
lines-is got kept e = ap (λ rest. ended got ++ last_line rest) (sym e)

pub Leaves-finished : (T : Type 0) (left : SourceState) (old now new : SinkState)
    (got kept : List ℕ) (r : Result T RunError) → State old now got kept
    → left.failed ≡ false → IsAtEnd left.remaining → Replies now new (last_line kept) r
    → OnErr r (0 < length kept)
    → Leaves left old new got r
Leaves-finished T left old now new got kept (Ok x) s f end w h = (
  end,
  subst (Wrote old new) (sym (lines-is got kept s.rest))
      (Wrote-append old now new _ _ s.written w.0),
  f,
  w.1,
)
Leaves-finished T left old now new got kept (Err Read) s f end w h = absurd w
Leaves-finished T left old now new got kept (Err Write) s f end w h = (
  inr (
    end,
    subst (WroteBeginning old new) (sym (lines-is got kept s.rest))
        (WroteBeginning-after old now new _ _ s.written w.0),
  ),
  f,
  w.1,
)
Leaves-finished T left old now new got kept (Err Memory) s f end w h =
    let k : WroteFirst now new (kept ++ []) =
    WroteFirst-none now new (kept ++ []) (omega (arith, length-append kept [])) w.0 in
    (subst (WroteFirst old new) (append-nil got) (State-memory old now new got kept [] s k), f, w.1)

-- ---- in a block of which a prefix was read

module _ (first block seen rest : List ℕ) (is : block ≡ seen ++ rest) where
  whole_is : first ++ block ≡ (first ++ seen) ++ rest
  whole_is = ap (λ l. first ++ l) is ∙ sym (append_assoc first seen rest)

  -- a line of the rest was answered
  pub seen_line : (line after : List ℕ) → rest ≡ line ++ 10 ∷ after
      → block ≡ (seen ++ (line ++ 10 ∷ [])) ++ after
  seen_line line after e =
      is ∙ ap (λ l. seen ++ l) (e ∙ sym (append_assoc line (10 ∷ []) after))
      ∙ sym (append_assoc seen (line ++ 10 ∷ []) after)

  pub State-seen : (old now new : SinkState) (kept line : List ℕ)
      → State old now (first ++ seen) kept → HasNoFeed line
      → Wrote now new ((kept ++ line) ∷ [])
      → State old new (first ++ (seen ++ (line ++ 10 ∷ []))) []
  State-seen old now new kept line s h w =
      subst (λ l. State old new l []) (append_assoc first seen (line ++ 10 ∷ []))
      (State-line old now new (first ++ seen) kept line s h w)

  pub AnswersEnded-line : (T U : Type 0) (old now new : SinkState) (kept line after keeps : List ℕ)
      (e : RunError) → rest ≡ line ++ 10 ∷ after
      → State old now (first ++ seen) kept → HasNoFeed line
      → Replies {T = T} now new ((kept ++ line) ∷ []) (Err e)
      → AnswersEnded {T = U} old new (first ++ block) keeps (Err e)
  AnswersEnded-line T U old now new kept line after keeps e r s h w =
      subst (λ l. AnswersEnded {T = U} old new l keeps (Err e))
      (sym (whole_is ∙ ap (λ l. (first ++ seen) ++ l) r))
      (AnswersEnded-got T U old now new (first ++ seen) kept line after keeps e s h w)

  pub AnswersEnded-piece : (U : Type 0) (old now : SinkState) (kept keeps : List ℕ)
      → State old now (first ++ seen) kept → 0 < length rest
      → now.failed ≡ false → AnswersEnded {T = U} old now (first ++ block) keeps (Err Memory)
  AnswersEnded-piece U old now kept keeps s h f =
      subst (λ l. AnswersEnded {T = U} old now l keeps (Err Memory)) (sym whole_is)
      (AnswersEnded-got_piece U old now (first ++ seen) kept rest keeps s h f)

  pub State-rest : (old now : SinkState) (kept : List ℕ) → State old now (first ++ seen) kept
      → HasNoFeed rest → State old now (first ++ block) (kept ++ rest)
  State-rest old now kept s h = subst (λ l. State old now l (kept ++ rest)) (sym whole_is)
      (State-piece old now (first ++ seen) kept rest s h)

-- ---- the bytes that were written are a prefix

lines_append : (bytes : List ℕ) → ended bytes ++ last_line (unended bytes) ≡ lines bytes
unfolding lines
lines_append bytes = refl

whole_beginning : (old new : SinkState) (xs ys : List (List ℕ)) → Wrote old new xs
    → WroteBeginning old new (xs ++ ys)
whole_beginning old new xs ys w =
    WroteBeginning-before old new xs ys
    (w.0, [], subst (AreReplies xs) (sym (append-nil w.0)) w.1, w.2)

Leaves-beginning : {T : Type 0} (left : SourceState) (old new : SinkState) (bytes : List ℕ)
    (r : Result T RunError)
    → Leaves left old new bytes r → WroteBeginning old new (lines bytes)
Leaves-beginning left old new bytes (Ok x) h =
    subst (WroteBeginning old new) (append-nil (lines bytes))
    (whole_beginning old new (lines bytes) [] h.1)
Leaves-beginning left old new bytes (Err Read) h =
    subst (WroteBeginning old new) (lines_append bytes)
    (whole_beginning old new (ended bytes) (last_line (unended bytes)) h.0)
Leaves-beginning left old new bytes (Err Write) (inl some, _, _) =
    subst (WroteBeginning old new) (lines_append bytes)
    (WroteBeginning-before old new (ended bytes) (last_line (unended bytes)) some)
Leaves-beginning left old new bytes (Err Write) (inr some, _, _) = some.1
Leaves-beginning left old new bytes (Err Memory) h =
    let first = h.0 in
    subst (WroteBeginning old new) (take-append-drop first.0 (lines bytes))
    (whole_beginning old new (take first.0 (lines bytes)) (drop first.0 (lines bytes)) first.2)

-- a run that returns `Ok` has answered the whole input
pub whole_input : {T : Type 0} (given left : SourceState) (old new : SinkState)
    (r : Result T RunError)
    → Runs given left old new r → OnOk r
    (IfSome given.remaining (λ input. Wrote old new (lines input)))
whole_input given left old new (Ok x) h =
    Consumes-whole given.remaining left.remaining h.0 (λ input. Wrote old new (lines input)) h.1
    h.2.0 h.2.1
whole_input given left old new (Err e) h = tt

-- whatever a run returns, it has written a prefix of the answers to the lines that it read
pub Runs-beginning : {T : Type 0} (given left : SourceState) (old now new : SinkState)
    (r : Result T RunError)
    → Runs given left old now r → Keeps now.contents new.contents → (bytes : List ℕ)
    × Consumes given.remaining left.remaining bytes × WroteBeginning old new (lines bytes)
Runs-beginning given left old now new r h k =
    let part = Leaves-beginning left old now h.0 r h.2 in (
      h.0,
      h.1,
      (
        part.0,
        part.1,
        part.2,
        Appends-kept old.contents now.contents new.contents part.0 part.3 k,
      ),
    )
