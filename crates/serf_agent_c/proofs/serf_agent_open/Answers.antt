use Rattle.serf_agent_c.proofs.Names.{None, false, inl, inr, refl, ◌≡◌, ◌≢◌, is_sound, Config, OpenError, BadConfig, SinkError, number_of, open_code, EndsAs, config_of}
use Rattle.serf_agent.specs.declared.outcome.OpenError.TheVariants.{OutOfMemory}
use Rattle.serf_agent_c.proofs.serf_agent_open.Goals as goal

-- how an opening that was refused ends
refused : (config : Config) (error : OpenError) → (error ≡ BadConfig → is_sound config ≡ false) → error ≢ SinkError → EndsAs config None (number_of (open_code error))
refused config BadConfig bad other = inl (refl, bad refl)
refused config OutOfMemory bad other = inr refl
refused config SinkError bad other = absurd (other refl)

pub returns-clause-code : goal.returns-clause-code
returns-clause-code c = λ none. rw (c.take.ensures.empty, c.number-in-Err.ensures, c.of_open.ensures) (refused (config_of c.args.name.now c.args.settings.now) _ c.in-Err.ensures.bad c.in-Err.ensures.memory)
