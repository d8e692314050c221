use Rattle.std.proofs.Common.{◌≤◌, arith, length, length-take-le}
use Rattle.cn_codes.proofs.code.code_by.Goals as goal

pub slice_bounds-list-end : goal.slice_bounds-list-end
slice_bounds-list-end g c =
    omega (arith, c.read_groups-count.ensures.count, c.read_groups-count.ensures.size)

pub slice_bounds-groups-end : goal.slice_bounds-groups-end
slice_bounds-groups-end g c =
    let within : c.read_groups-count.result ≤ length c.read_groups-count.new.list =
    omega (arith, c.read_groups-count.ensures.count, c.read_groups-count.ensures.size) in
    omega (arith, length-take-le c.read_groups-count.result c.read_groups-count.new.list within)
