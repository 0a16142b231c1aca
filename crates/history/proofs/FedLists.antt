-- Lists that are fed as soon as they are answered: an answer of n and t has room for its list in the buffer.
-- Assumes nothing.
use mathlib.Core.Path.{◌≡◌, refl}
use mathlib.Core.Bool.{false}
use Rattle.std.specs.Prelude.{Ok, Err}
use Prim.Native.Nat.{ℕ}
use native.Mathlib.Omega.{arith}
use Rattle.host.specs.declared.Record.{Record}
use Rattle.update.specs.declared.Sent.{Sent}
use Rattle.update.specs.declared.Updated.{Updated}
use Rattle.update.specs.Update.{ListAnswer, is_listed, Sending, send_answer, send_of, resetting, clearing, updating, update_of}
use Rattle.update.specs.SendLaws.{Answered, answered}
use Rattle.history.specs.Step.{Within}

-- every call that sends answers a list only where it has room
send_within : (r : Record) (x : Sending) → is_listed x.short ≡ false → (size : ℕ) → Within (send_of r x size).answer size
unfolding send_of
send_within r x s size = go (send_answer r x size) refl
  where
    go : (answer : ListAnswer) → send_answer r x size ≡ answer → Within answer size
    go (Ok l) e =
        let a : Answered r x size l.n l.t = answered r x s size l.n l.t e in
        omega (arith, a.room, a.n_is, a.t_is)
    go (Err e) f = tt

-- and keeps the buffer's length
pub within : (x : Record → Sending) (r : Record) → is_listed (x r).short ≡ false → (u : Sent) (old new : ℕ) → u ≡ send_of r (x r) old → new ≡ old →
    Within u.answer new
within x r s u old new e k = rw (e, k) (send_within r (x r) s old)

pub reset_within : (r : Record) (u : Sent) (old new : ℕ) → u ≡ send_of r (resetting r) old → new ≡ old → Within u.answer new
reset_within r u old new e k = within resetting r refl u old new e k

pub clear_within : (r : Record) (u : Sent) (old new : ℕ) → u ≡ send_of r (clearing r) old → new ≡ old → Within u.answer new
clear_within r u old new e k = within clearing r refl u old new e k

pub update_within : (r : Record) (u : Updated) (old new : ℕ) → u ≡ update_of r old → new ≡ old → Within u.answer new
update_within r u old new e k = rw (e, k) (send_within r (updating r) refl old)
