use Rattle.std.proofs.Common.{◌++◌, take, append_assoc, take-append-drop}
use Rattle.std.proofs.KnownBytes.{Appends-trans}
use Rattle.numbers.proofs.search.write_all.Goals as goal

pub loop-rest-preserved : goal.loop-rest-preserved
loop-rest-preserved g c =
    let i = c.loop-rest.invariant in (
      i.0 ++ take c.in-Ok.count c.loop-rest.rest.now,
      rw (c.split_at.ensures.back, append_assoc, take-append-drop) i.1,
      Appends-trans _ _ _ _ _ i.2 c.in-Ok.ensures.bytes,
    )
