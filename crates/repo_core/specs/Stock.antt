-- What a repository begins with, as the machine's state.
use Rattle.std.specs.Prelude.{Option}
use Rattle.outside.specs.Moments.{Moments}
use Rattle.repo_model.specs.State.{State}
use Rattle.repo_core.specs.declared.machine.Stock.{Stock}

-- the state with this stock and this clock, the records having never failed
abbrev pub state_of : {H : Type 0} → Stock H → Option Moments → State
state_of stock clock = record {
  hosted = stock.repos.items;
  proxies = stock.proxies.items;
  sessions = stock.sessions.sessions;
  yard = stock.yard.yard;
  last = stock.last;
  clock = clock;
  faults = 0;
}
