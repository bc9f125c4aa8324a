-- `forwarding_exact` promises what is proved in ForwardingClaims.
use Rattle.rules.proofs.ForwardingClaims.{load-forwarded, forwarded-stays, loads-stay, retry-reads-line, commit-uses}
use Rattle.rules.proofs.forwarding_exact.Goals as goal

pub returns : goal.returns
returns c = record { by-load = load-forwarded; by-others = forwarded-stays; list-stays = loads-stay; by-inquiry = retry-reads-line; by-commit = commit-uses }
