use Rattle.cn_replace.proofs.Texts.{puts-known, puts-none, read-none, read-some}
use Rattle.cn_replace.proofs.numbers.put_read.Goals as goal

pub returns-in_ok-put_quantity-in-Ok : goal.returns-in_ok-put_quantity-in-Ok
returns-in_ok-put_quantity-in-Ok g c =
    puts-known g.S.Sink.took _ _ _ _ (read-some _ _ _ c.in-Ok.ensures)
    c.in_ok-put_quantity-in-Ok.ensures

pub returns-in-Err : goal.returns-in-Err
returns-in-Err g c = puts-none g.S.Sink.took _ _ _ (read-none _ _ _ c.in-Err.ensures)
