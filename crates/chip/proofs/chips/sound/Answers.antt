-- `chip::chips::sound` meets its contract.
-- Assumes nothing.
use Rattle.chip.proofs.Steps.{not_opened, sound_opened}
use Rattle.chip.proofs.chips.sound.Goals as goal

pub returns-then-is_ok : goal.returns-then-is_ok
returns-then-is_ok c = sound_opened _ _ _ _ _ _ _ c.open_answer.ensures c.is_ok.ensures.value c.if-is_ok.true c.registers_ok.ensures

pub returns-else-is_ok : goal.returns-else-is_ok
returns-else-is_ok c = not_opened _ _ _ _ _ _ c.open_answer.ensures c.is_ok.ensures.value c.if-is_ok.false
