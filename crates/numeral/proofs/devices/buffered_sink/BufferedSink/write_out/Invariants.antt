use Rattle.std.proofs.Common.{◌≡◌, ◌≤◌, ◌-◌, drop, false}
use Rattle.std.specs.Prelude.{vec_len}
use Rattle.std.specs.Io.KnownBytes.{Keeps, append_known}
use Rattle.numeral.proofs.devices.buffered_sink.BufferedSink.write_out.Given as goal

abbrev pub invariant-writes : goal.invariant-writes
invariant-writes g l =
    (l.self.written ≤ vec_len l.self.buffer)
    × Keeps (append_known (g.W.Sink.state l.fn.self.inner).contents
    (drop l.fn.self.written l.fn.self.buffer.items))
    (append_known (g.W.Sink.state l.self.inner).contents (drop l.self.written l.self.buffer.items))
    × ((g.W.Sink.state l.self.inner).failed ≡ false)

abbrev pub decreases-writes : goal.decreases-writes
decreases-writes g l = vec_len l.self.buffer - l.self.written
