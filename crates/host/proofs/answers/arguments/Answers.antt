-- `host::answers::arguments` meets its contract.
-- Assumes nothing.
use Rattle.host.specs.Record.{field_answer, arguments_answer}
use Rattle.host.proofs.Steps.{lamp_is}
use Rattle.host.proofs.answers.arguments.Goals as goal

pub returns-in-Register : goal.returns-in-Register
unfolding arguments_answer
returns-in-Register c = rw c.in-Register.is c.register.ensures

pub returns-in-Lamp : goal.returns-in-Lamp
unfolding arguments_answer
returns-in-Lamp c = rw c.in-Lamp.is (lamp_is _ _ _ _ _ _ _ c.top_level-top.ensures c.field.ensures)

pub returns-in-Group : goal.returns-in-Group
unfolding arguments_answer field_answer
returns-in-Group c = rw c.in-Group.is c.field-in-Group.ensures

pub returns-in-Switch : goal.returns-in-Switch
unfolding arguments_answer field_answer
returns-in-Switch c = rw c.in-Switch.is c.field-in-Switch.ensures

pub returns-in-Scene : goal.returns-in-Scene
unfolding arguments_answer
returns-in-Scene c = rw c.in-Scene.is c.answer.ensures
