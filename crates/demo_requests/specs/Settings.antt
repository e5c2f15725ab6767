-- The settings under which the requests are answered: two hosted repositories, and a group of both.
use Rattle.std.specs.Prelude.{true, false, [], ◌∷◌, codes}
use Rattle.repo_model.specs.Settings.{GroupRule, Rule, Settings}

abbrev pub releases : Rule
releases = record { id = codes "releases"; releases = true; snapshots = false; keep_count = 1000; keep_days = 36500 }

abbrev pub snapshots : Rule
snapshots = record { id = codes "snapshots"; releases = false; snapshots = true; keep_count = 2; keep_days = 0 }

abbrev pub public : GroupRule
public = record { id = codes "public"; members = codes "releases" ∷ codes "snapshots" ∷ [] }

-- an unlisted file is answered for 5 seconds more; all else is as where settings say nothing of it
abbrev pub settings : Settings
settings = record {
  grace = 5;
  clean = 3600;
  max_file = 16777216;
  hosted = releases ∷ snapshots ∷ [];
  proxies = [];
  groups = public ∷ [];
}
