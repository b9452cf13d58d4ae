use Rattle.std.proofs.Common.{◌≡◌, false, drop}
use Rattle.link_calls.specs.AtOnce.{AreApart, EachOf, all_staged}
use Rattle.link_calls.proofs.AtOnce.{IsFree}
use Rattle.link_calls.proofs.at_once.stage_all.Given as goal

abbrev pub invariant-loop-one : goal.invariant-loop-one
invariant-loop-one l = record {
  llc : l.client.llc ≡ l.fn.client.llc;
  going : l.client.spent ≡ false;
  slots : all_staged (drop l.one-index l.messages) l.client.slots ≡ all_staged l.messages l.fn.client.slots;
  free : EachOf (IsFree l.client.slots) (drop l.one-index l.messages);
  apart : AreApart (drop l.one-index l.messages);
}
