-- After 06h and checks an input of a kind is executed exactly where it fits the part.
use Rattle.types.specs.declared.Operation.{Operation}
use Rattle.std.specs.Prelude.{Option}
use Prim.Native.Nat.{ℕ}
use mathlib.Core.Path.{◌≡◌, refl, sym, ap, ◌∙◌}
use mathlib.Core.Bool.{Bool, true}
use mathlib.Core.List.{List}
use lib.ListN.{length}
use Rattle.types.specs.declared.Addressing.{Addressing}
use Rattle.types.specs.declared.Phase.TheVariants.{Idle}
use Rattle.types.specs.declared.Record.{Record}
use Rattle.types.specs.declared.Answer.{Answer}
use Rattle.words.proofs.Tests.{and_l}
use Rattle.paper.specs.Sizes.{array_bytes, rows_bytes}
use Rattle.paper.specs.Table.{columns}
use Rattle.paper.specs.Commands.{begun}
use Rattle.paper.specs.Numbers.{address_ok, free_ok}
use Rattle.paper.specs.Calls.{transacted}
use Rattle.paper.proofs.Numbers.{transaction_taken, command_taken}
use Rattle.paper.proofs.Answers.{not_refused_then, not_ignored}
use Rattle.laws.specs.Writes.{Kind, OfKind, Fitting}
use Rattle.laws.specs.DriverLaws.{FitsExactly}
use Rattle.laws.proofs.Commanded.{sent_as_lem, begun_as_lem, commanded, enabled, enabled_sound, fits_standing, standing_fits}
use Rattle.laws.proofs.Written.{opened_number}

-- a record: what it executes fits it
executed_fits : (p : Record) (d : Kind) (wp : Bool) (i : List ℕ) → OfKind p.part.blocks p.part.bank d i → (transacted p (array_bytes p.part.blocks) rows_bytes wp i (length i)).number ≡ 0 → Fitting p d i
executed_fits p d wp i c z =
    let k = columns c.command in
    let a = array_bytes p.part.blocks in
    let t = transaction_taken _ _ _ _ _ _ (not_refused_then p a rows_bytes wp i (length i) c.command c.known z) in
    let x = command_taken k (begun k p.part i) p.part p.phase i wp (not_ignored p a rows_bytes wp i (length i) c.command c.known z) in
    record {
      code = c;
      some = t.some;
      most = t.few;
      right_length = x.length_ok_lem;
      right_address = sym (ap (λ (g : Addressing). address_ok k.named g i) (sent_as_lem p d i c)) ∙ x.address_ok_lem;
      free_target = and_l _ _ (sym (ap (λ (w : Option Operation). free_ok w p.part p.phase wp) (begun_as_lem p d i c)) ∙ x.free_ok_lem);
    }

-- a board: after 06h and checks the record has WEL 1, and what fits it then fitted before
pub fits_exactly : FitsExactly
fits_exactly b d w r c h =
    let p = b.state in
    let n = opened_number b r w h in (
      λ z. standing_fits p Idle true p.page d w.input (executed_fits (enabled p) d w.sent_at w.input c (sym n ∙ z)),
      λ f. n ∙ ap (λ (t : Answer). t.number) (commanded (enabled p) (enabled_sound p r.is_sound r.idle r.awake) refl r.awake refl d w.input (fits_standing p Idle true p.page d w.input f) w.sent_at),
    )
