use Rattle.std.proofs.Common.{◌≡◌, List, [], ◌∷◌, ◌++◌, length, map, ap, sym, subst, ◌∙◌}
use Rattle.vme_script.specs.Configurations.{Configuration}
use Rattle.vme_threads.specs.declared.ports.Ports.{Ports}
use Rattle.vme_threads.specs.declared.worker.Ran.{Ran}
use Rattle.vme_threads.specs.Ports.{IsBuilt}
use Rattle.vme_threads.specs.Rans.{HasRun}
use Rattle.vme_threads.specs.Reports.{HaveRun, CanGather}
use Rattle.vme_threads.proofs.lemmas.Gathered.{have_none, have_more}
use Rattle.vme_thread_tests.proofs.runs.workers.gather_two.Goals as goal

-- the workers are these two
both_are : (none one two : List Ran) (first second : Ran) → none ≡ [] → one ≡ none ++ first ∷ [] → two ≡ one ++ second ∷ [] → two ≡ first ∷ second ∷ []
both_are none one two first second empty first_is second_is =
    second_is ∙ ap (λ (rs : List Ran). rs ++ second ∷ []) (first_is ∙ ap (λ (rs : List Ran). rs ++ first ∷ []) empty)

-- both workers have run their scripts
both_can :
    (config : Configuration) (ports : Ports) (first second : Ran) → IsBuilt config ports → length config.boards ≡ 2 → HasRun config ports 0 first
    → HasRun config ports 1 second → CanGather config ports (first ∷ second ∷ [])
both_can config ports first second built two first_ran second_ran =
    let one = have_more config ports [] first (have_none config ports) first_ran in
    record { built = built; count = sym two; runs = have_more config ports (first ∷ []) second one second_ran }

pub gather-requires : goal.gather-requires
gather-requires c =
    let rans = both_are _ _ _ c.args.first c.args.second c.in_ok-rans.ensures.items c.push_reserved.ensures.items c.push_reserved-2.ensures.items in (
      c.args.config.now,
      subst (CanGather c.args.config.now c.args.ports) (sym rans)
          (both_can c.args.config.now c.args.ports c.args.first c.args.second c.requires.built c.requires.two c.requires.first c.requires.second),
    )

-- the lines of the report are those of the workers
pub returns : goal.returns
returns c =
    let rans = both_are _ _ _ c.args.first c.args.second c.in_ok-rans.ensures.items c.push_reserved.ensures.items c.push_reserved-2.ensures.items in
    let can =
    subst (CanGather c.args.config.now c.args.ports) (sym rans)
    (both_can c.args.config.now c.args.ports c.args.first c.args.second c.requires.built c.requires.two c.requires.first c.requires.second)
    in
    (c.gather.ensures.gathered c.args.config.now can).lines ∙ ap (map (λ (r : Ran). r.lines)) rans
