pub mod PanelHistory
pub mod PanelLaws
pub mod PanelRecovery
