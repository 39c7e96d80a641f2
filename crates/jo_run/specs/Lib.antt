-- To be believed: Sets. Whoever runs a script over a heap of their own has to believe Scripts too. `inner` serves:
-- what is known of codes, machines and jobs before scripts run, and after it.
pub mod Scripts
pub mod Sets
pub mod inner
