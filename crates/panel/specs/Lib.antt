pub mod PanelStep
