use Rattle.cn_amount.proofs.InvoiceShown.{written-invoice}
use Rattle.cn_amount.proofs.laws.typed_signed.amounts_with_each_sign_are_amounts.Goals as goal

pub returns : goal.returns
returns c = written-invoice
