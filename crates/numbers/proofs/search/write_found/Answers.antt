use Rattle.std.proofs.Common.{ℕ, List, [], ◌∷◌, ◌++◌, decimal, append_assoc}
use Rattle.std.specs.Io.KnownBytes.{Appends}
use Rattle.std.proofs.KnownBytes.{Appends-trans}
use Rattle.std.proofs.lemmas.Result.{on_ok_weaker}
use Rattle.numbers.proofs.search.write_found.Goals as goal

pub returns : goal.returns
returns g c =
    let text = c.args.found.text.now in
    let answer = c.in_ok-write_answer.ensures.0 in
    let begins : List ℕ = decimal c.args.line
    ++ 58 ∷ (decimal c.args.column ++ 32 ∷ (text ++ 32 ∷ [])) in
    let first : Appends (g.W.Write.contents c.args.writer.now)
    (g.W.Write.contents c.write_answer.new.writer) (begins ++ answer) =
    Appends-trans _ _ _ begins answer c.in_ok-write.ensures.bytes c.in_ok-write_answer.ensures.2 in
    on_ok_weaker c.writeln.result (λ w. (
      answer,
      c.in_ok-write_answer.ensures.1,
      (let all : Appends (g.W.Write.contents c.args.writer.now)
          (g.W.Write.contents c.writeln.new.self) ((begins ++ answer) ++ 10 ∷ []) =
          Appends-trans _ _ _ (begins ++ answer) (10 ∷ []) first w in
          simp append_assoc (simp append_assoc at all)),
    )) c.writeln.ensures.bytes
