use Rattle.std.proofs.Common.{rules, ◌∙◌}
use Rattle.cn_core.proofs.Buffers.{first-text}
use Rattle.cn_codes.proofs.with_codes.put_text_in_figures.Goals as goal

pub returns-clause-count : goal.returns-clause-count
returns-clause-count c = (first-text _ _ _ c.new-buffer.ensures.empty c.in-Ok.ensures).count

pub returns-clause-put : goal.returns-clause-put
returns-clause-put c = λ fits.
    let has = first-text _ _ _ c.new-buffer.ensures.empty c.in-Ok.ensures in
    let lender = has.lender ∙ c.new-buffer.ensures.lender in
    let there = (rw c.new-buffer.ensures.bytes at has.fits) fits in
    search (rules, lender, there)

pub returns-clause-prefix : goal.returns-clause-prefix
returns-clause-prefix c =
    let has = first-text _ _ _ c.new-buffer.ensures.empty c.in-Ok.ensures in
    let lender = has.lender ∙ c.new-buffer.ensures.lender in
    let prefix = rw c.new-buffer.ensures.bytes at has.prefix in
    let there = prefix.2 in (prefix.0, prefix.1, search (rules, lender, there))
