use Rattle.frame_world.proofs.Standstill.{never_stuck}
use Rattle.frame_world.proofs.laws.never_stuck.Goals as goal

pub returns : goal.returns
returns c =
    never_stuck c.parts_hold.ensures c.each_has_one_place.ensures c.who_eats_has_its_forks.ensures c.the_thirsty_wait_for_an_eater.ensures c.the_thirsty_lack_a_fork.ensures c.none_next_is_at_rest.ensures
