-- The laws of an erase that is cut and begun again, all of them.
use Rattle.restart.specs.Restart.{Restart}
use Rattle.restart.proofs.AtTheCut.{at_the_cut, reset_cuts}
use Rattle.restart.proofs.Alone.{nothing_else_lem, nothing_else_through}
use Rattle.restart.proofs.DoneOver.{done_over, update_restarts}
use Rattle.restart.proofs.NeedsEnable.{needs_enable}
use Rattle.restart.proofs.SomeTicks.{every_tick}
use Rattle.restart.proofs.EveryCut.{every_cut}

pub restart : Restart
restart =
    record { at_the_cut = at_the_cut; reset_cuts = reset_cuts; needs_enable = needs_enable; every_tick = every_tick; nothing_else_lem = nothing_else_lem; nothing_else_through = nothing_else_through; done_over = done_over; update_restarts = update_restarts; every_cut = every_cut }
