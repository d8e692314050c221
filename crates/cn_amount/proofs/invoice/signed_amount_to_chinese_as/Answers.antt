use Rattle.std.proofs.Common.{rules}
use Rattle.cn_amount.proofs.InvoiceShown.{invoice_is}
use Rattle.cn_amount.proofs.invoice.signed_amount_to_chinese_as.Goals as goal

pub returns : goal.returns
returns c = invoice_is _ _ _ _ _ (search rules) c.in_ok-string_of.ensures (search rules)
