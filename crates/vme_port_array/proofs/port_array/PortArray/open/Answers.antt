use Rattle.std.proofs.Common.{◌≡◌, ◌*◌, ◌∙◌, arith, rules, ℕ, replicate, length, ap}
use Rattle.vme_port_array.proofs.Opens.{opens}
use Rattle.vme_port_array.proofs.port_array.PortArray.open.Goals as goal

pub new-requires : goal.new-requires
new-requires g c =
    let rule = opens g.O.Object.step c.args.objects.items c.args.passes c.in_ok-slots.slots.items c.in_ok-slots.ensures in
    let len : c.len-count.result ≡ length c.args.objects.items = omega (arith, c.len-count.ensures, c.args.objects.ok.0) in
    let words : c.as_slice.result.now ≡ replicate (length c.args.objects.items * 16) 0 =
    c.as_slice.ensures.value ∙ c.in_ok-words.ensures.items_if_clones_equal (search rules) ∙ ap (λ (n : ℕ). replicate {A = ℕ} (n * 16) 0) len in
    rw (c.of.ensures, words) rule
