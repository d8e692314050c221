use Rattle.std.proofs.Common.{◌≡◌, ◌+◌, ◌++◌, ◌∷◌, [], List, ℕ, length, refl, subst, arith, length-append}
use Rattle.cn_columns.specs.Reading.{Answer, IsColumnRowRead}
use Rattle.cn_columns.proofs.ReadRows.{each-more}
use Rattle.cn_columns.proofs.Rows.{mapped-more}
use Rattle.cn_columns.proofs.reading.read_rows.Goals as goal

pub reading-init : goal.reading-init
reading-init g c = ([], omega arith, refl, tt, refl, refl)

pub reading-preserved : goal.reading-preserved
reading-preserved g c =
    let rows : List (Answer g.row.V.Denot) = c.reading.invariant.0 in
    let next : Answer g.row.V.Denot = record { status = c.read_row-answer.result.status; value = c.read_row-answer.result.value } in
    let holds : ℕ → Answer g.row.V.Denot → Type 0 =
    IsColumnRowRead (g.R.RowReader.is_answer c.args.reader) c.args.texts.now c.args.offsets.now c.args.presence.bitmap.now c.args.presence.first c.args.unread.value c.args.unread.missing c.args.unread.outside in
    let many : length rows ≡ c.reading.row = c.reading.invariant.2 in
    let at : c.reading.row ≡ 0 + length rows = omega (arith, many) in
    let here : holds c.reading.row next = rw (← c.has-is_present.ensures) c.read_row-answer.ensures in (
      rows ++ next ∷ [],
      omega arith,
      omega (arith, length-append rows (next ∷ []), many),
      each-more holds 0 rows next c.reading.invariant.3 (subst (λ n. holds n next) at here),
      mapped-more (λ (answer : Answer g.row.V.Denot). answer.value) rows next _ _ c.reading.row c.reading.invariant.4 many (omega arith),
      mapped-more (λ (answer : Answer g.row.V.Denot). answer.status) rows next _ _ c.reading.row c.reading.invariant.5 many (omega arith),
    )

pub returns : goal.returns
returns g c =
    let many : length c.reading.invariant.0 ≡ c.reading.row = c.reading.invariant.2 in
    record {
      answers = c.reading.invariant.0;
      all = omega (arith, many, c.reading.invariant.1);
      each = c.reading.invariant.3;
      values = rw many c.reading.invariant.4;
      answered_statuses = rw many c.reading.invariant.5;
    }
