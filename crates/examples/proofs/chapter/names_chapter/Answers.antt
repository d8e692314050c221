use Rattle.std.proofs.Common.{encode_utf8_all, codes}
use Rattle.std.specs.Prelude.{eqb}
use Rattle.std.specs.List.{starts_with, ends_with}
use Rattle.std.proofs.lemmas.Str.Pattern.{starts_text, ends_text}
use Rattle.examples.proofs.Chapters.{both, neither}
use Rattle.examples.proofs.chapter.names_chapter.Goals as goal

pub returns-then-ends_with : goal.returns-then-ends_with
unfolding lib.Utf8.encode
returns-then-ends_with c =
    let di = encode_utf8_all (codes "第") in
    let hui = encode_utf8_all (codes "回") in
    let before = c.args.found.before.now in
    let after = c.args.found.after.now in
    both c.ends_with.result c.starts_with.result (ends_with eqb before di) (starts_with eqb after hui)
    c.if-ends_with.true (ends_text c.ends_with.result di before c.ends_with.ensures.cases)
    (starts_text c.starts_with.result hui after c.starts_with.ensures.cases)

pub returns-else-ends_with : goal.returns-else-ends_with
unfolding lib.Utf8.encode
returns-else-ends_with c =
    let di = encode_utf8_all (codes "第") in
    let before = c.args.found.before.now in
    neither c.ends_with.result (ends_with eqb before di) _ c.if-ends_with.false
    (ends_text c.ends_with.result di before c.ends_with.ensures.cases)
