use Rattle.cn_quantity_text.proofs.NumeralsRead.{numerals-read}
use Rattle.cn_quantity_text.proofs.laws.what_is_written_is_read_back.Goals as goal

pub returns : goal.returns
returns c = λ variant case method q held fits written.
    numerals-read variant case method q held written.0 fits written.1
