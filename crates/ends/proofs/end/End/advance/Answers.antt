use Rattle.std.proofs.Common.{ap, sym, ◌∙◌}
use Rattle.ends.specs.Ends.{model}
use Rattle.ends.specs.Model.{Outbox}
use Rattle.ends.specs.Sending.{with_outbox}
use Rattle.ends.proofs.Countings.{kept_none, kept_at, reset, moved_at}
use Rattle.ends.proofs.end.End.advance.Goals as goal

pub returns-in_default : goal.returns-in_default
returns-in_default g c = kept_none g.O.Direction.text.room (model c.args.self.now) c.in_default.ensures

pub returns-then-is_out : goal.returns-then-is_out
returns-then-is_out g c =
    ap (λ (o : Outbox). with_outbox (model c.args.self.now) (reset o)) c.set_stage.ensures ∙
    rw (c.advanced.ensures, c.block_count-blocks.ensures) (moved_at g.O.Direction.text.room (model c.args.self.now) c.in-Some.current c.in-Some.ensures (sym c.is_out.ensures ∙ c.if-is_out.true))

pub returns-else-is_out : goal.returns-else-is_out
returns-else-is_out g c = kept_at g.O.Direction.text.room (model c.args.self.now) c.in-Some.current c.in-Some.ensures (sym c.is_out.ensures ∙ c.if-is_out.false)
