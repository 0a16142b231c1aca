-- `panel::call` meets its contract.
-- Assumes nothing.
use Rattle.panel.proofs.Steps.{reset_room, update_room, setting_step, power_lost_step, lock_step, reset_step, update_step_lem}
use Rattle.panel.proofs.call.Goals as goal

pub feed-requires : goal.feed-requires
feed-requires c = reset_room _ _ _ _ _ _ _ _ _ _ c.lp586x_reset-answer.auto.buffer (c.lp586x_reset-answer.ensures.value, (c.lp586x_reset-answer.ensures.bytes_after, (c.lp586x_reset-answer.ensures.buffer_after, (c.lp586x_reset-answer.ensures.n_after, c.lp586x_reset-answer.ensures.t_after))))

pub feed-requires-in-Update : goal.feed-requires-in-Update
feed-requires-in-Update c = update_room _ _ _ _ _ _ _ _ _ _ c.lp586x_update-answer.auto.buffer _ _ _ _ (c.lp586x_update-answer.ensures.value, (c.lp586x_update-answer.ensures.bytes_after, (c.lp586x_update-answer.ensures.buffer_after, (c.lp586x_update-answer.ensures.n_after, (c.lp586x_update-answer.ensures.t_after, (c.lp586x_update-answer.ensures.stored_after, c.lp586x_update-answer.ensures.needed_after))))))

pub returns-in-Set : goal.returns-in-Set
returns-in-Set c = setting_step _ _ _ _ _ _ _ _ _ _ c.in-Set.is (c.set.ensures.value, c.set.ensures.bytes_after)

pub returns-in-Reset : goal.returns-in-Reset
returns-in-Reset c = reset_step _ _ _ _ _ _ _ _ _ _ _ _ _ c.in-Reset.is (c.lp586x_reset-answer.ensures.value, (c.lp586x_reset-answer.ensures.bytes_after, (c.lp586x_reset-answer.ensures.buffer_after, (c.lp586x_reset-answer.ensures.n_after, c.lp586x_reset-answer.ensures.t_after)))) c.feed.ensures

pub returns-in-PowerLost : goal.returns-in-PowerLost
returns-in-PowerLost c = power_lost_step _ _ _ _ _ _ _ _ _ _ c.in-PowerLost.is (c.lp586x_power_lost.ensures.value, c.lp586x_power_lost.ensures.bytes_after) c.lp586x_chip_power_lost.ensures.bytes_after

pub returns-in-Update : goal.returns-in-Update
returns-in-Update c = update_step_lem _ _ _ _ _ _ _ _ _ _ _ _ _ _ _ c.in-Update.is (c.lp586x_update-answer.ensures.value, (c.lp586x_update-answer.ensures.bytes_after, (c.lp586x_update-answer.ensures.buffer_after, (c.lp586x_update-answer.ensures.n_after, (c.lp586x_update-answer.ensures.t_after, (c.lp586x_update-answer.ensures.stored_after, c.lp586x_update-answer.ensures.needed_after)))))) c.feed-in-Update.ensures

pub returns-in-Lock : goal.returns-in-Lock
returns-in-Lock c = lock_step _ _ _ _ _ _ _ _ _ c.in-Lock.is (c.lp586x_lock.ensures.value, c.lp586x_lock.ensures.bytes_after)
