use Rattle.std.proofs.Common.{◌≡◌, ◌+◌, ◌-◌, ◌++◌, ◌∷◌, [], List, ℕ, min, length, take, sym, ap, ◌∙◌, arith, length-take-le}
use Rattle.std.proofs.lemmas.List.{take-take}
use Rattle.cn_columns.specs.Columns.{Row, rows_of}
use Rattle.cn_columns.proofs.Rows.{bytes-more, end-more, length-rows, mapped-more, next, no_room, offsets-more}
use Rattle.cn_columns.proofs.printing.print_rows.Goals as goal

pub printing-preserved : goal.printing-preserved
printing-preserved g c =
    let rows : List Row = rows_of (g.P.RowPrinter.row_of c.args.printer) c.args.missing c.args.presence.bitmap.now c.args.presence.first c.args.values.now in
    let n : ℕ = c.printing.row in
    let row : Row = record { status = c.print_row-printed.result.status; text = c.print_row-printed.result.text.now } in
    let many : length rows ≡ length c.args.values.now =
    length-rows (g.P.RowPrinter.row_of c.args.printer) c.args.missing c.args.presence.bitmap.now c.args.presence.first c.args.values.now in
    let done : length (take n rows) ≡ n = length-take-le n rows (omega arith) in
    let more : take (n + 1) rows ≡ take n rows ++ row ∷ [] =
    next (g.P.RowPrinter.row_of c.args.printer) c.args.missing c.args.presence.bitmap.now c.args.presence.first c.args.values.now n c.index-values-row.result (omega arith)
    ∙ ap (λ r. take n rows ++ r ∷ []) (rw (← c.index-values-row.is, ← c.has.ensures) (sym c.print_row-printed.ensures)) in
    rw more (
      omega arith,
      end-more _ _ _ (take n rows) row c.printing.invariant.1 c.in-Some.ensures.0,
      λ _. omega (arith, c.in-Some.ensures.1),
      offsets-more _ _ (take n rows) row _ _ n c.printing.invariant.3 done (omega arith) (omega (arith, c.printing.invariant.1, c.in-Some.ensures.0)),
      bytes-more _ _ _ (take n rows) row _ _ _ c.printing.invariant.4 c.printing.invariant.1 c.in-Some.ensures.0 (omega (arith, c.in-Some.ensures.1)) c.in-Some.ensures.2,
      mapped-more (λ (it : Row). it.status) (take n rows) row _ _ n c.printing.invariant.5 done (omega arith),
    )

pub returns-in_default : goal.returns-in_default
returns-in_default g c =
    let rows : List Row = rows_of (g.P.RowPrinter.row_of c.args.printer) c.args.missing c.args.presence.bitmap.now c.args.presence.first c.args.values.now in
    let n : ℕ = c.printing.row in
    let row : Row = record { status = c.print_row-printed.result.status; text = c.print_row-printed.result.text.now } in
    let many : length rows ≡ length c.args.values.now =
    length-rows (g.P.RowPrinter.row_of c.args.printer) c.args.missing c.args.presence.bitmap.now c.args.presence.first c.args.values.now in
    let count : ℕ = min (length c.args.values.now) (min (length c.args.offsets.now - 1) (length c.args.statuses.now)) in
    let most : length (take count rows) ≡ count = length-take-le count rows (omega arith) in
    let done : take n (take count rows) ≡ take n rows = take-take n count rows (omega arith) in
    let more : take (n + 1) (take count rows) ≡ take n rows ++ row ∷ [] =
    take-take (n + 1) count rows (omega arith)
    ∙ next (g.P.RowPrinter.row_of c.args.printer) c.args.missing c.args.presence.bitmap.now c.args.presence.first c.args.values.now n c.index-values-row.result (omega arith)
    ∙ ap (λ r. take n rows ++ r ∷ []) (rw (← c.index-values-row.is, ← c.has.ensures) (sym c.print_row-printed.ensures)) in
    record {
      within = omega (arith, most);
      fits = λ some. rw done (rw c.printing.invariant.1 at (c.printing.invariant.2 some));
      full = λ _. rw more (no_room _ _ _ (take n rows) row c.printing.invariant.1 (omega (arith, c.in_default.ensures.0)));
      offsets = rw done c.printing.invariant.3;
      bytes = rw done (c.in_default.ensures.1 ∙ c.printing.invariant.4);
      statuses = rw done c.printing.invariant.5;
    }
