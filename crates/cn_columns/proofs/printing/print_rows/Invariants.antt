use Rattle.std.proofs.Common.{◌≡◌, ◌+◌, ◌-◌, ◌<◌, ◌≤◌, ◌++◌, List, map, length, take, drop}
use Rattle.cn_columns.specs.Columns.{Column, Row, ends, end_of, rows_of, start_of, texts}
use Rattle.cn_columns.proofs.printing.print_rows.Given as goal

abbrev pub invariant-printing : goal.invariant-printing
invariant-printing g l =
    let rows : List Row = take l.row (rows_of (g.P.RowPrinter.row_of l.printer) l.missing l.presence.bitmap.now l.presence.first l.values) in
    let old : Column = record { offsets = l.fn.offsets; bytes = l.fn.bytes; statuses = l.fn.statuses } in
    (l.row ≤ l.count) × (l.at ≡ end_of old rows) × (0 < l.row → l.at ≤ length l.fn.bytes)
    × (l.offsets ≡ take 1 l.fn.offsets ++ ends (start_of old) rows ++ drop (l.row + 1) l.fn.offsets)
    × (l.bytes ≡ take (start_of old) l.fn.bytes ++ texts rows ++ drop (end_of old rows) l.fn.bytes)
    × (l.statuses ≡ map (λ (row : Row). row.status) rows ++ drop l.row l.fn.statuses)

abbrev pub decreases-printing : goal.decreases-printing
decreases-printing g l = l.count - l.row
