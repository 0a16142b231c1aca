-- `writes::storing::store_transaction` meets its contract.
-- Assumes nothing.
use native.Mathlib.Omega.{arith}
use Rattle.writes.proofs.ListStored.{address_small, one_within, one_counted, one_stored}
use Rattle.writes.proofs.storing.store_transaction.Goals as goal

pub overflow_add-address : goal.overflow_add-address
overflow_add-address c = omega (arith, address_small _ _ _ _ c.head_address-address.ensures)

pub returns-then-image-address : goal.returns-then-image-address
returns-then-image-address c = record { within = omega arith; value = λ three inside within. absurd (omega (arith, one_within c.args.bus c.args.from c.args.size c.args.list.now c.args.image.now three inside _ c.head_address-address.ensures within)) }

pub returns : goal.returns
returns c =
    record {
      within = omega (arith, c.store.ensures.value);
      value = λ three inside within. (
        one_counted c.args.bus c.args.from c.args.size c.args.list.now c.args.image.now three inside _ c.head_address-address.ensures _ c.store.ensures.value,
        one_stored c.args.bus c.args.from c.args.size c.args.list.now c.args.image.now three inside _ c.head_address-address.ensures _ c.store.ensures.to_after,
      );
    }
