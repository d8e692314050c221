use Rattle.std.proofs.Common.{rules}
use Rattle.cn_judge.proofs.FirstBytes.{entry_is_len}
use Rattle.cn_judge.proofs.text.char_len.Goals as goal

pub returns : goal.returns
returns c = entry_is_len c.args.first (search rules)
