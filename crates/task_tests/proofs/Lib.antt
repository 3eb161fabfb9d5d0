pub mod ScenarioStays
