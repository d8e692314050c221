use Rattle.std.proofs.Common.{◌≡◌, ◌-◌, ◌≤◌, ◌++◌, length, drop, sym, ap, ◌∙◌, subst, arith, rules}
use Rattle.std.specs.Str.{IsUtf8}
use Rattle.std.proofs.lemmas.Str.{IsUtf8-append, IsUtf8-had}
use Rattle.cn_core.proofs.EndBuffers.{put-front, put-size}
use Rattle.cn_core.proofs.end_buffer.EndBuffer.put.Goals as goal

pub invariant_of-self-clause-utf8 : goal.invariant_of-self-clause-utf8
invariant_of-self-clause-utf8 c =
    let old = c.args.self.now in
    let more = c.args.more.now in
    let start = old.free - length more in
    let put = put-front start old.free old.bytes.now c.copy_from_slice.new.self (omega arith)
    (search (rules, old.within)) in
    let whole : c.copy_from_slice.new.self ≡ more = search rules in
    let after = put ∙ ap (λ bytes. bytes ++ drop old.free old.bytes.now) whole in
    ∣ subst IsUtf8 (sym after) (IsUtf8-append _ _ c.utf8.more (IsUtf8-had _ old.utf8)) ∣₁

pub returns : goal.returns
returns c =
    let old = c.args.self.now in
    let more = c.args.more.now in
    let start = old.free - length more in
    let within : old.free ≤ length old.bytes.now = search (rules, old.within) in
    let whole : c.copy_from_slice.new.self ≡ more = search rules in
    record {
      size = put-size start old.free old.bytes.now c.copy_from_slice.new.self
          (omega (arith, ap length whole)) within;
      free = omega arith;
      text = put-front start old.free old.bytes.now c.copy_from_slice.new.self (omega arith) within
          ∙ ap (λ bytes. bytes ++ drop old.free old.bytes.now) whole;
    }
