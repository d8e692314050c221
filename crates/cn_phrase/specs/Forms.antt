-- The forms of phrases: the table of their pieces.
use Rattle.std.specs.Prelude.{List, [], ◌∷◌}
use Rattle.cn_phrase.specs.declared.form.Form.{Form}
use Rattle.cn_phrase.specs.declared.form.Form.TheVariants.{YearMonthDay, YearMonth, MonthDay, Year, PartOfMonth, DashDate, SlashDate, Years, Months, MonthsTwice, Days, DaysTwice, LinkedMonth, LinkedDay, HourMinuteSecond, HourMinute, HourBare, HourZero, HourHalf, HourQuarter, ColonSecond, ColonMinute, HourAlone, HoursMinutesSeconds, HoursMinutes, MinutesSeconds, HalfOf, HalfAfter, LengthOne, LengthTwo, Score, ColonScore}
use Rattle.cn_phrase.specs.declared.piece.Piece.{Piece}
use Rattle.cn_phrase.specs.declared.piece.Piece.TheVariants.{Slot, Fixed, NotBefore}
use Rattle.cn_phrase.specs.declared.piece.Guard.TheVariants.{Lunar, Prime, MoreMinutes, Name, Number, OfClock, OfDate, OfHalf, OfLength, OfScore, Share}
use Rattle.cn_phrase.specs.declared.shape.Shape.TheVariants as shape
use Rattle.cn_phrase.specs.declared.word.Word.TheVariants as word
use Rattle.cn_phrase.specs.declared.word.Word.TheVariants.{Bi, Colon, Dash, Dian, Fen, Half, HalfAfter, HalfOf, Hours, Ke, Link, Mi, Miao, Minutes, Nian, Ri, Seconds, Shi, Slash, Yue}

-- the pieces of a form
abbrev pub pieces_of : Form → List Piece
pieces_of YearMonthDay =
    Slot shape.EraYear ∷ Fixed Nian ∷ Slot shape.Count ∷ Fixed Yue ∷ Slot shape.Count ∷ Fixed Ri ∷ []
pieces_of YearMonth =
    Slot shape.EraYear ∷ Fixed Nian ∷ Slot shape.Count ∷ Fixed Yue ∷ NotBefore Lunar ∷ []
pieces_of MonthDay =
    Slot shape.Count ∷ Fixed Yue ∷ Slot shape.Count ∷ Fixed Ri ∷ []
pieces_of Year =
    Slot shape.FullYear ∷ Fixed Nian ∷ NotBefore Prime ∷ []
pieces_of PartOfMonth =
    Slot shape.Count ∷ Fixed Yue ∷ Fixed word.PartOfMonth ∷ []
pieces_of DashDate =
    Slot shape.Year ∷ Fixed Dash ∷ Slot shape.FewFigures ∷ Fixed Dash ∷ Slot shape.FewFigures ∷ NotBefore OfDate ∷ []
pieces_of SlashDate =
    Slot shape.Year ∷ Fixed Slash ∷ Slot shape.FewFigures ∷ Fixed Slash ∷ Slot shape.FewFigures ∷ NotBefore OfDate ∷ []
pieces_of Years =
    Slot shape.FullYear ∷ Fixed Link ∷ Slot shape.FullYear ∷ Fixed Nian ∷ []
pieces_of Months =
    Slot shape.Count ∷ Fixed Link ∷ Slot shape.Count ∷ Fixed Yue ∷ []
pieces_of MonthsTwice =
    Slot shape.Count ∷ Fixed Yue ∷ Fixed Link ∷ Slot shape.Count ∷ Fixed Yue ∷ []
pieces_of Days =
    Slot shape.Count ∷ Fixed Link ∷ Slot shape.Count ∷ Fixed Ri ∷ []
pieces_of DaysTwice =
    Slot shape.Count ∷ Fixed Ri ∷ Fixed Link ∷ Slot shape.Count ∷ Fixed Ri ∷ []
pieces_of LinkedMonth =
    Slot shape.Count ∷ Fixed Yue ∷ []
pieces_of LinkedDay =
    Slot shape.Count ∷ Fixed Ri ∷ []
pieces_of HourMinuteSecond =
    Slot shape.Clock ∷ Fixed Shi ∷ Slot shape.Clock ∷ Fixed Fen ∷ Slot shape.Clock ∷ Fixed Miao ∷ []
pieces_of HourMinute =
    Slot shape.Clock ∷ Fixed Shi ∷ Slot shape.Clock ∷ Fixed Fen ∷ NotBefore Share ∷ []
pieces_of HourBare =
    Slot shape.Clock ∷ Fixed Dian ∷ Slot shape.LongCount ∷ NotBefore MoreMinutes ∷ NotBefore Name ∷ []
pieces_of HourZero =
    Slot shape.Clock ∷ Fixed Dian ∷ Slot shape.ZeroDigit ∷ NotBefore MoreMinutes ∷ NotBefore Name ∷ []
pieces_of HourHalf =
    Slot shape.Clock ∷ Fixed Shi ∷ Fixed Half ∷ []
pieces_of HourQuarter =
    Slot shape.Clock ∷ Fixed Shi ∷ Slot shape.Quarter ∷ Fixed Ke ∷ []
pieces_of ColonSecond =
    Slot shape.FewFigures ∷ Fixed Colon ∷ Slot shape.TwoFigures ∷ Fixed Colon ∷ Slot shape.TwoFigures ∷ NotBefore OfClock ∷ NotBefore Name ∷ []
pieces_of ColonMinute =
    Slot shape.FewFigures ∷ Fixed Colon ∷ Slot shape.TwoFigures ∷ NotBefore OfClock ∷ NotBefore Name ∷ []
pieces_of HourAlone =
    Slot shape.Clock ∷ Fixed Shi ∷ NotBefore Number ∷ []
pieces_of HoursMinutesSeconds =
    Slot shape.Small ∷ Fixed Hours ∷ Slot shape.Count ∷ Fixed Minutes ∷ Slot shape.Count ∷ Fixed Seconds ∷ []
pieces_of HoursMinutes =
    Slot shape.Small ∷ Fixed Hours ∷ Slot shape.Count ∷ Fixed Minutes ∷ []
pieces_of MinutesSeconds =
    Slot shape.Small ∷ Fixed Minutes ∷ Slot shape.Count ∷ Fixed Seconds ∷ []
pieces_of HalfOf =
    Slot shape.Small ∷ Fixed HalfOf ∷ []
pieces_of HalfAfter =
    Slot shape.Small ∷ Fixed HalfAfter ∷ NotBefore OfHalf ∷ []
pieces_of LengthOne =
    Slot shape.Small ∷ Fixed Mi ∷ Slot shape.OneDigit ∷ NotBefore OfLength ∷ NotBefore Name ∷ []
pieces_of LengthTwo =
    Slot shape.Small ∷ Fixed Mi ∷ Slot shape.TwoDigits ∷ NotBefore OfLength ∷ NotBefore Name ∷ []
pieces_of Score =
    Slot shape.Small ∷ Fixed Bi ∷ Slot shape.Small ∷ NotBefore OfScore ∷ NotBefore Name ∷ []
pieces_of ColonScore =
    Slot shape.FewFigures ∷ Fixed Colon ∷ Slot shape.FewFigures ∷ NotBefore OfClock ∷ NotBefore Name ∷ []
