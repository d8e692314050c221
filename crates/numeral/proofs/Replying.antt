-- The bytes that are written when lines are answered one after the other.
use Rattle.std.proofs.Common.{◌++◌, ℕ, List, [], ◌∷◌, Result, Ok, Err, refl, sym, ap, ◌∙◌, subst, append_assoc}
use Rattle.std.specs.Io.KnownBytes.{Appends}
use Rattle.std.proofs.KnownBytes.{Appends-trans, Appends-nil}
use Rattle.numeral.specs.declared.fault.RunError.{RunError}
use Rattle.numeral.specs.declared.fault.RunError.TheVariants.{Read, Write, Memory}
use Rattle.numeral.specs.Steps.{Puts}
use Rattle.numeral.specs.Devices.{SinkState}
use Rattle.cn_lines.specs.Answer.{AreReplies}
use Rattle.cn_lines.proofs.OneAnswer.{some_replies}
use Rattle.numeral.specs.Leaves.{Wrote, WroteBeginning}

pub AreReplies-append : (xs ys : List (List ℕ)) (a b : List ℕ) → AreReplies xs a → AreReplies ys b
    → AreReplies (xs ++ ys) (a ++ b)
AreReplies-append [] ys a b p q = subst (AreReplies ys) (ap (λ l. l ++ b) (sym p)) q
AreReplies-append (x ∷ xs) ys a b p q = (
  p.0,
  p.1 ++ b,
  p.2,
  AreReplies-append xs ys p.1 b p.3 q,
  ap (λ l. l ++ b) p.4
      ∙ append_assoc p.0 (10 ∷ p.1) b,
)

pub Wrote-none : (now : SinkState) → Wrote now now []
Wrote-none now = ([], refl, Appends-nil now.contents)

pub Wrote-append : (old now new : SinkState) (xs ys : List (List ℕ)) → Wrote old now xs
    → Wrote now new ys → Wrote old new (xs ++ ys)
Wrote-append old now new xs ys p q = (
  p.0 ++ q.0,
  AreReplies-append xs ys p.0 q.0 p.1 q.1,
  Appends-trans old.contents now.contents new.contents p.0 q.0 p.2 q.2,
)

pub WroteBeginning-after : (old now new : SinkState) (xs ys : List (List ℕ)) → Wrote old now xs
    → WroteBeginning now new ys
    → WroteBeginning old new (xs ++ ys)
WroteBeginning-after old now new xs ys p q = (
  p.0 ++ q.0,
  q.1,
  subst (AreReplies (xs ++ ys)) (sym (append_assoc p.0 q.0 q.1))
      (AreReplies-append xs ys p.0 (q.0 ++ q.1) p.1 q.2),
  Appends-trans old.contents now.contents new.contents p.0 q.0 p.2 q.3,
)

pub WroteBeginning-before : (old new : SinkState) (xs ys : List (List ℕ))
    → WroteBeginning old new xs → WroteBeginning old new (xs ++ ys)
WroteBeginning-before old new xs ys p =
    let more = some_replies ys in (
      p.0,
      p.1 ++ more.0,
      subst (AreReplies (xs ++ ys)) (append_assoc p.0 p.1 more.0)
          (AreReplies-append xs ys (p.0 ++ p.1) more.0 p.2 more.1),
      p.3,
    )

-- a write of the first of two texts fails
pub Puts-first : (T U : Type 0) (old new : SinkState) (first second : List ℕ) (e : RunError)
    → Puts {T = T} old new first (Err e) → Puts {T = U} old new (first ++ second) (Err e)
Puts-first T U old new first second Read p = absurd p
Puts-first T U old new first second Write p = (
  p.0,
  p.1 ++ second,
  ap (λ l. l ++ second) p.2 ∙ append_assoc p.0 p.1 second,
  p.3,
  p.4,
)
Puts-first T U old new first second Memory p = absurd p

-- the first text was written, and the second is
pub Puts-second : (T : Type 0) (old now new : SinkState) (first second : List ℕ)
    (r : Result T RunError) → Appends old.contents now.contents first
    → Puts now new second r → Puts old new (first ++ second) r
Puts-second T old now new first second (Ok x) a p =
    (Appends-trans old.contents now.contents new.contents first second a p.0, p.1)
Puts-second T old now new first second (Err Read) a p = absurd p
Puts-second T old now new first second (Err Write) a p = (
  first ++ p.0,
  p.1,
  ap (λ l. first ++ l) p.2 ∙ sym (append_assoc first p.0 p.1),
  Appends-trans old.contents now.contents new.contents first p.0 a p.3,
  p.4,
)
Puts-second T old now new first second (Err Memory) a p = absurd p
