-- `player::play_line` meets its contract: each kind of line is what its own function promises, since `line_of` is that kind.
-- Assumes nothing.
use Rattle.player.proofs.Steps.{run_line, aside_fits, round_fits, run_played, aside_played, panel_played, round_played}
use Rattle.player.proofs.play_line.Goals as goal

pub run-requires : goal.run-requires
run-requires c = run_line _ _ _ c.read.ensures c.in-Run.is

pub play-requires : goal.play-requires
play-requires c = aside_fits _ _ _ c.read.ensures c.in-Aside.is

pub round-requires : goal.round-requires
round-requires c = round_fits _ _ _ _ _ c.read.ensures c.in-Round.is

pub returns-in-Run : goal.returns-in-Run
returns-in-Run c = let p = run_played c.args.player _ c.read.result c.read.ensures _ _ _ _ _ _ c.in-Run.is (c.run.ensures.player_value, (c.run.ensures.puts, c.run.ensures.line_fits)) in record { player_value = p.0; puts = p.1.0; line_fits = p.1.1 }

pub returns-in-Aside : goal.returns-in-Aside
returns-in-Aside c =
    let p = aside_played c.args.player _ c.read.result c.read.ensures _ _ _ _ _ _ c.in-Aside.is
    c.play.ensures.player_value c.play.ensures.puts in record { player_value = p.0; puts = p.1.0; line_fits = p.1.1 }

pub returns-in-Panel : goal.returns-in-Panel
returns-in-Panel c =
    let p = panel_played c.args.player _ c.read.result c.read.ensures _ _ _ _ _ _ c.in-Panel.is
    c.panel.ensures.player_value c.panel.ensures.puts in record { player_value = p.0; puts = p.1.0; line_fits = p.1.1 }

pub returns-in-Round : goal.returns-in-Round
returns-in-Round c = let p = round_played c.args.player _ c.read.result c.read.ensures _ _ _ _ _ _ _ _ c.in-Round.is (c.round.ensures.player_value, (c.round.ensures.puts, c.round.ensures.line_fits)) in record { player_value = p.0; puts = p.1.0; line_fits = p.1.1 }
