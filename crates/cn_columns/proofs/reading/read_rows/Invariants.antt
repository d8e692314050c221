use Rattle.std.proofs.Common.{◌≡◌, ◌-◌, ◌≤◌, ◌++◌, List, map, length, drop}
use Rattle.cn_columns.specs.Reading.{Answer, EachRow, IsColumnRowRead}
use Rattle.cn_columns.proofs.reading.read_rows.Given as goal

abbrev pub invariant-reading : goal.invariant-reading
invariant-reading g l =
    (answers : List (Answer g.row.V.Denot)) × (l.row ≤ l.count) × (length answers ≡ l.row)
    × EachRow (IsColumnRowRead (g.R.RowReader.is_answer l.reader) l.texts l.offsets l.presence.bitmap.now l.presence.first l.unread.value l.unread.missing l.unread.outside) 0 answers
    × (l.values ≡ map (λ (answer : Answer g.row.V.Denot). answer.value) answers ++ drop l.row l.fn.values)
    × (l.statuses ≡ map (λ (answer : Answer g.row.V.Denot). answer.status) answers ++ drop l.row l.fn.statuses)

abbrev pub decreases-reading : goal.decreases-reading
decreases-reading g l = l.count - l.row
