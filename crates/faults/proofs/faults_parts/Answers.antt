-- `faults::faults_parts` meets its contract.
-- Assumes nothing.
use native.Mathlib.Omega.{arith}
use Rattle.std.proofs.lemmas.Result.{err_from_is_err_and}
use Rattle.host.specs.Record.{record_behind}
use Rattle.faults.proofs.Steps.{check_passed, read_room, refused_is, read_is}
use Rattle.faults.proofs.faults_parts.Goals as goal

pub read_all-found-requires : goal.read_all-found-requires
read_all-found-requires c = let t = check_passed _ _ _ _ c.checked.ensures c.in_ok-checked.was in (t.bytes, t.result)

pub mark-requires : goal.mark-requires
mark-requires c = (
  c.wide.ensures,
  read_room _ _ _ c.read_all-found.ensures.result_after (check_passed _ _ _ _ c.checked.ensures c.in_ok-checked.was).result,
)

pub bounds-bytes-0 : goal.bounds-bytes-0
bounds-bytes-0 c = omega (arith, (check_passed (record_behind c.args.r) _ _ _ c.checked.ensures c.in_ok-checked.was).bytes)

pub returns-in_err-checked : goal.returns-in_err-checked
returns-in_err-checked c =
    let p = err_from_is_err_and c.from_residual.result c.from_residual.ensures.1 in
    let q = refused_is _ _ _ _ c.checked.ensures _ c.in_err-checked.was in
    record { value = rw (p.1, p.2) q.0; result_after = q.1 }

pub returns : goal.returns
returns c =
    let p = read_is (record_behind c.args.r) c.args.bytes.now c.args.res.now _ c.checked.ensures _ _ c.read_all-found.result.opens c.read_all-found.result.shorts _
    c.in_ok-checked.was c.read_all-found.ensures.result_after c.mark.ensures c.read_all-found.ensures.opens_value.0 c.read_all-found.ensures.opens_value.1
    c.read.ensures.0 c.read.ensures.1 in record { value = p.0; result_after = p.1 }
