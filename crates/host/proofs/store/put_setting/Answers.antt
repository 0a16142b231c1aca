-- `host::store::put_setting` meets its contract.
-- Assumes nothing.
use Rattle.host.proofs.Steps.{numbered, refused_puts, register_puts, lamp_puts, group_puts, switch_puts, scene_puts}
use Rattle.host.proofs.store.put_setting.Goals as goal

pub returns-in_default : goal.returns-in_default
returns-in_default c = let is = c.in_default.is in record { settings_after = λ image e. refused_puts c.args.header c.args.settings.now image c.args.lent.now c.args.answer _ _ is; numbers = λ image e. numbered c.args.header c.args.settings.now image c.args.lent.now c.args.answer _ _ c.answer_numbers-numbers.ensures e }

pub returns-in-Register : goal.returns-in-Register
returns-in-Register c =
    let is = c.in-Register.is in
    record { settings_after = λ image e. rw is (register_puts _ _ image _ _ _ _ _ c.in-Ok.is c.put_byte.ensures (rw is at e)); numbers = λ image e. numbered _ _ image _ _ _ _ c.answer_numbers-numbers.ensures e }

pub returns-in-Lamp : goal.returns-in-Lamp
returns-in-Lamp c =
    let is = c.in-Lamp.is in
    record { settings_after = λ image e. rw is (lamp_puts _ _ image _ _ _ _ _ _ c.in-Ok.is c.put_lamp.ensures (rw is at e)); numbers = λ image e. numbered _ _ image _ _ _ _ c.answer_numbers-numbers.ensures e }

pub returns-in-Group : goal.returns-in-Group
returns-in-Group c =
    let is = c.in-Group.is in
    record { settings_after = λ image e. rw is (group_puts _ _ image _ _ _ _ _ _ c.in-Ok.is c.put_field.ensures (rw is at e)); numbers = λ image e. numbered _ _ image _ _ _ _ c.answer_numbers-numbers.ensures e }

pub returns-in-Switch : goal.returns-in-Switch
returns-in-Switch c =
    let is = c.in-Switch.is in
    record { settings_after = λ image e. rw is (switch_puts _ _ image _ _ _ _ _ _ c.in-Ok.is c.put_field-in-Switch.ensures (rw is at e)); numbers = λ image e. numbered _ _ image _ _ _ _ c.answer_numbers-numbers.ensures e }

pub returns-in-Scene : goal.returns-in-Scene
returns-in-Scene c =
    let is = c.in-Scene.is in
    record { settings_after = λ image e. rw is (scene_puts _ _ image _ _ _ c.in-Ok.is c.put.ensures (rw is at e)); numbers = λ image e. numbered _ _ image _ _ _ _ c.answer_numbers-numbers.ensures e }
