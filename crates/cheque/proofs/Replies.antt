-- The bytes that were written are a reply.
use Rattle.std.proofs.Common.{◌≡◌, ℕ, List, Option, refl}
use Rattle.std.specs.Prelude.{Result, IfOk}
use Rattle.std.specs.Io.KnownBytes.{Appends}
use Rattle.std.proofs.KnownBytes.{Appends-nil}
use Rattle.std.proofs.lemmas.Result.{IfOk-weaker}
use Rattle.cheque.specs.Reply.{Reply, Gives, answered, line, out_of_memory, refused}

pub gives_answer : {E : Type 0} (status : Result ℕ E) (IsRight : Reply → Type 0) (text : List ℕ)
    (output new_output errors : Option (List ℕ)) → IsRight (answered text)
    → IfOk status (λ s. (s ≡ 0) × Appends output new_output (line text))
    → IfOk status (λ s. Gives IsRight s output new_output errors errors)
gives_answer status IsRight text output new_output errors right written = IfOk-weaker status
    (λ s. (s ≡ 0) × Appends output new_output (line text))
    (λ s. Gives IsRight s output new_output errors errors)
    (λ s w. (answered text, right, w.0, w.1, Appends-nil errors)) written

pub gives_refusal : {E : Type 0} (status : Result ℕ E) (IsRight : Reply → Type 0) (text : List ℕ)
    (output errors new_errors : Option (List ℕ)) → IsRight (refused text)
    → IfOk status (λ s. (s ≡ 1) × Appends errors new_errors (line text))
    → IfOk status (λ s. Gives IsRight s output output errors new_errors)
gives_refusal status IsRight text output errors new_errors right written = IfOk-weaker status
    (λ s. (s ≡ 1) × Appends errors new_errors (line text))
    (λ s. Gives IsRight s output output errors new_errors)
    (λ s w. (refused text, right, w.0, Appends-nil output, w.1)) written

pub gives_nothing : (IsRight : Reply → Type 0) (output errors : Option (List ℕ))
    → IsRight out_of_memory → Gives IsRight 2 output output errors errors
gives_nothing IsRight output errors right =
    (out_of_memory, right, refl, Appends-nil output, Appends-nil errors)
