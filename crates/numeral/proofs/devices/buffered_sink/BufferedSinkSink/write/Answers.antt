use Rattle.numeral.proofs.Buffered.{written_through}
use Rattle.numeral.proofs.devices.buffered_sink.BufferedSinkSink.write.Goals as goal

pub returns-then-not-try_append-clause-bytes : goal.returns-then-not-try_append-clause-bytes
returns-then-not-try_append-clause-bytes g c =
    let first = c.if-try_append.ensures in
    let second = c.if-not-try_append.ensures in
    let out = c.in_ok-write_out.ensures in
    rw (
      second.written,
      out.start,
      second.buffer,
      out.empty,
      ← first.buffer,
      ← first.written,
      ← first.inner,
    )
    (written_through _ _ _ _ _ _ (rw second.inner (rw (out.start, out.empty) at out.bytes))
    c.write.ensures.bytes)
