use Rattle.std.proofs.Common.{rules, ◌≡◌, drop, sym, ◌∙◌}
use Rattle.std.proofs.Math.ListN.{drop_of_length-le}
use Rattle.std.proofs.KnownBytes.{Keeps-refl, Keeps-trans, append_known-kept, append_known-moved}
use Rattle.numeral.proofs.Buffered.{kept-same, left_after, slice_to_end}
use Rattle.numeral.proofs.devices.buffered_sink.BufferedSink.write_out.Goals as goal

pub writes-init : goal.writes-init
writes-init g c = (c.args.self.now.within, Keeps-refl _, c.requires.works)

pub returns-in_err-count-clause-bytes : goal.returns-in_err-count-clause-bytes
returns-in_err-count-clause-bytes g c =
    Keeps-trans _ _ _ (c.writes.invariant).1 (append_known-kept _ _ _
    (c.in_err-count.ensures).bytes)

pub writes-preserved : goal.writes-preserved
writes-preserved g c =
    let whole = slice_to_end c.writes.self.buffer.items c.deref.result.now c.writes.self.written
    c.deref.ensures.value in (
      search rules,
      Keeps-trans _ _ _ (c.writes.invariant).1 (append_known-moved _ _ _ _ _
          (c.in_ok-count.ensures).bytes
          (sym whole ∙ left_after c.writes.self.buffer.items _ c.writes.self.written
          c.in_ok-count.count whole)),
      c.in_ok-count.ensures.fails,
    )

pub returns-clause-bytes : goal.returns-clause-bytes
returns-clause-bytes g c =
    let nothing : drop c.writes.self.written c.writes.self.buffer.items ≡ c.clear.new.self.items =
    drop_of_length-le c.writes.self.buffer.items search rules ∙ sym c.clear.ensures.items in
    Keeps-trans _ _ _ (c.writes.invariant).1 (kept-same _ nothing)
