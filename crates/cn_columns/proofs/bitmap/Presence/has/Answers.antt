use Rattle.std.proofs.Common.{◌≡◌, ◌+◌, ◌/◌, ◌%◌, arith, rules}
use Rattle.cn_columns.proofs.bitmap.Presence.has.Goals as goal

pub returns : goal.returns
returns c =
    let byte : (c.args.self.first + c.args.row) / 8 ≡ c.args.self.first / 8 + (c.args.self.first % 8 + c.args.row) / 8 = omega arith in
    let bit : (c.args.self.first + c.args.row) % 8 ≡ (c.args.self.first % 8 + c.args.row) % 8 = omega arith in
    rw (byte, bit) (search rules)
